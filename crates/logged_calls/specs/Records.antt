-- A call as the numbers of a record.
use Rattle.device_gate.specs.declared.slips.Told.TheVariants.{Died, Sensed, Worked}
use Rattle.device_gate.specs.declared.slips.Told.{Told}
use Rattle.home_types.specs.declared.numbers.RunNo.{RunNo}
use Rattle.logged_calls.specs.Times.{number_time, time_number}
use Rattle.logged_calls.specs.declared.calls.Logged.TheVariants.{Added, Began, Closed, Gave, Lost, Opened, Probed, Restood, Took}
use Rattle.logged_calls.specs.declared.calls.Logged.{Logged}
use Rattle.logged_calls.specs.declared.records.Record.{Record}
use Rattle.std.specs.Option.{option_map}
use Rattle.std.specs.Prelude.{Bool, None, Option, Some, if◌then◌else◌, nat_lt, ℕ, ◌&&◌, ◌==◌, ◌^◌}

-- 0 for a run that follows none, else 1, and the number of the other run
abbrev pub follow_sort : Option RunNo → ℕ
follow_sort None = 0
follow_sort (Some run) = 1

abbrev pub followed_number : Option RunNo → ℕ
followed_number None = 0
followed_number (Some run) = run.0

-- 1 for an answer that worked, 2 for one that found a value, 3 for none, and the value
abbrev pub told_sort : Told → ℕ
told_sort Worked = 1
told_sort (Sensed value) = 2
told_sort Died = 3

abbrev pub told_value : Told → ℕ
told_value Worked = 0
told_value (Sensed value) = value
told_value Died = 0

-- a record of these numbers
abbrev pub numbers : ℕ → ℕ → ℕ → ℕ → ℕ → ℕ → Record
numbers kind sort device value first second = record {
  kind = kind;
  sort = sort;
  device = device;
  value = value;
  first = first;
  second = second;
}

-- the numbers of a call; one that it has no need of is 0
abbrev pub record_of : Logged → Record
record_of (Began at rounds) = numbers 1 0 0 rounds (time_number at) 0
record_of (Added routine follows) =
    numbers 2 (follow_sort follows) 0 routine (followed_number follows) 0
record_of (Opened number) = numbers 3 0 0 number 0 0
record_of (Took run moment) = numbers 4 0 0 run.0 0 moment
record_of (Gave device ticket told moment) =
    numbers 5 (told_sort told) device.0 (told_value told) ticket moment
record_of (Probed device) = numbers 6 0 device.0 0 0 0
record_of Closed = numbers 7 0 0 0 0 0
record_of (Restood device value) = numbers 8 0 device.0 value 0 0
record_of (Lost device) = numbers 9 0 device.0 0 0 0

-- the run that is followed by a record, where one is; none where its number has more than 32 bits
abbrev pub follow_in : Record → Option (Option RunNo)
follow_in r =
    if r.sort == 0 then Some None
    else (if nat_lt r.first (2 ^ 32) then Some (Some (record { 0 = r.first })) else None)

-- what a device answered by a record
abbrev pub told_in : Record → Option Told
told_in r =
    if r.sort == 1 then Some Worked
    else (if r.sort == 2 then Some (Sensed r.value)
    else (if r.sort == 3 then Some Died else None))

-- the call of the kind of this record, with what such a call needs of its numbers
abbrev pub call_of_kind : Record → Option Logged
call_of_kind r =
    if r.kind == 1 then option_map (λ at. Began at r.value) (number_time r.first)
    else (if r.kind == 2 then option_map (λ follows. Added r.value follows) (follow_in r)
    else (if r.kind == 3 then Some (Opened r.value)
    else (if r.kind == 4 then Some (Took (record { 0 = r.value }) r.second)
    else (if r.kind == 5
    then option_map (λ told. Gave (record { 0 = r.device }) r.first told r.second) (told_in r)
    else (if r.kind == 6 then Some (Probed (record { 0 = r.device }))
    else (if r.kind == 7 then Some Closed
    else (if r.kind == 8 then Some (Restood (record { 0 = r.device }) r.value)
    else (if r.kind == 9 then Some (Lost (record { 0 = r.device })) else None))))))))

-- whether two records have the same numbers
abbrev pub same_record : Record → Record → Bool
same_record a b =
    (a.kind == b.kind)
    && ((a.sort == b.sort)
    && ((a.device == b.device)
    && ((a.value == b.value) && ((a.first == b.first) && (a.second == b.second)))))

-- this call, where its numbers are those of the record; else none
abbrev pub if_same : Record → Option Logged → Option Logged
if_same r None = None
if_same r (Some call) = if same_record (record_of call) r then Some call else None

-- the call of a record: the one whose numbers these are
abbrev pub call_of : Record → Option Logged
call_of r = if_same r (call_of_kind r)
