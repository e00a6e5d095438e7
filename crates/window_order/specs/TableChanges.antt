-- What the steps of a window make of its lineages.
use Rattle.command_rules.specs.Rosters.{Run, command_at, run_no, touches, touches_from}
use Rattle.history_book.specs.Plans.{planned_end, planned_start}
use Rattle.history_book.specs.Readings.{Planned, Reading, did, is_doomed, is_fine, is_told}
use Rattle.history_book.specs.Settings.{Setting}
use Rattle.home_types.specs.Commands.{driven}
use Rattle.home_types.specs.Kinds.{kind_at}
use Rattle.home_types.specs.Numbers.{CommandIndex, DeviceId, LinePlace, RunId}
use Rattle.home_types.specs.declared.commands.Answer.{Answer}
use Rattle.home_types.specs.declared.commands.Command.{Command}
use Rattle.home_types.specs.declared.commands.View.TheVariants.{Down}
use Rattle.home_types.specs.declared.commands.View.{View}
use Rattle.home_types.specs.declared.items.Item.TheVariants.{Back, Failed, Ran}
use Rattle.home_types.specs.declared.items.Item.{Item}
use Rattle.home_types.specs.declared.numbers.RunNo.{RunNo}
use Rattle.home_types.specs.declared.numbers.DeviceNo.{DeviceNo}
use Rattle.lineage_table.specs.Accesses.{accesses_before, has_access, is_acquired, is_of, is_released, is_scheduled, some_acquired, some_scheduled, status_of}
use Rattle.lineage_table.specs.Lineages.{LineageState, acquired, counted_up, lineage_at, released, removed, scheduled, undone, with_value_written}
use Rattle.lineage_table.specs.declared.accesses.Access.{Access}
use Rattle.lineage_table.specs.declared.accesses.Status.TheVariants.{Released, Scheduled}
use Rattle.lock_leasing.specs.Configurations.{Grips, grips_command}
use Rattle.lock_leasing.specs.Tables.{view_when}
use Rattle.std.specs.Prelude.{Bool, List, None, Option, Some, [], drop, false, if◌then◌else◌, length, map, not, option_map, unwrap_or, ℕ, ◌+◌, ◌<◌, ◌==◌, ◌||◌, ◌∷◌, ◌≡◌}

-- the table has the same devices, and each has its lineage changed so
pub record ChangesEach (change : DeviceId → LineageState → LineageState)
    (old new : List LineageState) : Type 0 where
  pub devices : length new ≡ length old
  pub each : (d : DeviceId) → d < length old → lineage_at new d ≡ change d (lineage_at old d)

-- A run is placed

-- the first run of these items that has an access
abbrev pub first_with_access : List Access → List Item → Option RunNo
first_with_access accesses [] = None
first_with_access accesses (Ran r ∷ is) =
    if has_access r.0 accesses then Some r else first_with_access accesses is
first_with_access accesses (Failed e k ∷ is) = first_with_access accesses is
first_with_access accesses (Back e k ∷ is) = first_with_access accesses is

-- the access of the run that has not touched the device yet
abbrev pub waiting_access : RunId → List Planned → DeviceId → Access
waiting_access r planned d = record {
  run = run_no r;
  status = Scheduled;
  view = None;
  wrote = None;
  from = planned_start planned d;
  to = planned_end planned d;
}

-- a released access behind a place is that of a run which was passed, and waits again
abbrev pub waits_again : Access → Access
waits_again x = if is_released x.status then record x { status = Scheduled; view = None } else x

-- the access of the run, and those behind it
abbrev pub from_run : RunId → List Access → List Access
from_run q [] = []
from_run q (x ∷ xs) = if is_of q x then (x ∷ xs) else from_run q xs

-- .. none, where no run is named
abbrev pub accesses_from : Option RunNo → List Access → List Access
accesses_from None accesses = []
accesses_from (Some q) accesses = from_run q.0 accesses

-- the accesses, with those from that of the run on waiting again
abbrev pub with_again_from : RunId → List Access → List Access
with_again_from q [] = []
with_again_from q (x ∷ xs) =
    if is_of q x then (waits_again x ∷ map waits_again xs) else (x ∷ with_again_from q xs)

-- .. all as they are, where no run is named
abbrev pub with_again : Option RunNo → List Access → List Access
with_again None accesses = accesses
with_again (Some q) accesses = with_again_from q.0 accesses

abbrev pub rescheduled : Option RunNo → LineageState → LineageState
rescheduled before s = record s { accesses = with_again before s.accesses }

-- what the table asks for before it schedules the run's access in front of those of these items:
-- the run has none, there is room, and from the first of them on none is acquired
pub record IsNewOn (r : RunId) (back : List Item) (s : LineageState) : Type 0 where
  pub none : has_access r s.accesses ≡ false
  pub room : 0 < s.room
  pub waits : some_acquired (accesses_from (first_with_access s.accesses back) s.accesses) ≡ false

-- placed in front of these items it has an access on each of its devices, with these planned times,
-- before the first one of a run among them: that one and those behind it wait, again where they
-- were passed
abbrev pub scheduled_on : List Run → RunId → List Planned → List Item → DeviceId
    → LineageState → LineageState
scheduled_on runs r planned back d s =
    if touches runs r d then scheduled (first_with_access s.accesses back)
    (waiting_access r planned d) (rescheduled (first_with_access s.accesses back) s) else s

abbrev pub placed_change : Setting → Reading → RunId → LinePlace → List Planned → DeviceId
    → LineageState → LineageState
placed_change w n r at planned = scheduled_on w.runs r planned (drop at n.line)

-- A command is answered

-- what the table asks for before it marks a first answer
pub record IsFirst (r : RunId) (s : LineageState) : Type 0 where
  pub scheduled : status_of r s.accesses ≡ Some Scheduled
  pub none_acquired : some_acquired s.accesses ≡ false
  pub none_before : some_scheduled (accesses_before r s.accesses) ≡ false

-- the access is passed where it is scheduled: acquired by a run that sees the device down, and
-- released
abbrev pub pass_access : Access → Access
pass_access x =
    if is_scheduled x.status then record x { status = Released; view = Some Down } else x

-- the accesses with each of those before that of the run passed
abbrev pub with_passed : RunId → List Access → List Access
with_passed r [] = []
with_passed r (x ∷ xs) = if is_of r x then (x ∷ xs) else (pass_access x ∷ with_passed r xs)

-- the scheduled accesses before that of the run are passed, before its own is acquired
abbrev pub passed : RunId → LineageState → LineageState
passed r s = record s { accesses = with_passed r s.accesses }

abbrev pub passed_if : Bool → RunId → LineageState → LineageState
passed_if first r s = if first then passed r s else s

-- what the table asks for before those are passed: the run's access is scheduled, and none is
-- acquired
pub record IsWaiting (r : RunId) (s : LineageState) : Type 0 where
  pub scheduled : status_of r s.accesses ≡ Some Scheduled
  pub none_acquired : some_acquired s.accesses ≡ false

abbrev pub acquired_if : Bool → RunId → View → LineageState → LineageState
acquired_if first r view s = if first then acquired r view s else s

abbrev pub written_if : Option ℕ → RunId → LineageState → LineageState
written_if None r s = s
written_if (Some v) r s = with_value_written r v s

abbrev pub released_if : Bool → RunId → LineageState → LineageState
released_if last r s = if last then released r s else s

-- the run notes an answer on the device: whether it is its first one there, how it sees the device,
-- what it wrote, and whether it is done there
abbrev pub answer_noted : RunId → Bool → View → Option ℕ → Bool → LineageState → LineageState
answer_noted r first view wrote last s =
    released_if last r (written_if wrote r (acquired_if first r view s))

-- the value that the answer says was written
abbrev pub told_write : Setting → Reading → RunId → Command → Answer → Option ℕ
told_write w n r c a =
    if is_fine a then Some (driven (kind_at w.kinds c.device.0) c.job (n.run r).register) else None

-- the run is done with the device of its command of this number: it is doomed, or no later command
-- is on the device
abbrev pub is_done_there : Setting → Reading → RunId → CommandIndex → Bool
is_done_there w n r k =
    is_doomed n r || not (touches_from w.runs r (command_at w.runs r k).device.0 (k + 1))

-- the device of the command number k is acquired at the first answer there, where the scheduled
-- accesses before it are passed, has the value that was written, and is released when the run is
-- done there
abbrev pub answered_lineage : Setting → Reading → RunId → CommandIndex → Answer
    → LineageState → LineageState
answered_lineage w n r k a s =
    answer_noted r (not (did n r (command_at w.runs r k).device.0)) (view_when (is_told a))
    (told_write w n r (command_at w.runs r k) a) (is_done_there w n r k)
    (passed_if (not (did n r (command_at w.runs r k).device.0)) r s)

abbrev pub answered_change : Setting → Reading → RunId → CommandIndex → Answer → DeviceId
    → LineageState → LineageState
answered_change w n r k a d s =
    if d == (command_at w.runs r k).device.0 then answered_lineage w n r k a s else s

-- A command is skipped

-- the device of the command number k is left at the run's last command there: released by a run
-- that has an access there, and no longer waited for by one that skipped all of its commands there
abbrev pub skipped_lineage : Setting → Reading → RunId → CommandIndex → LineageState → LineageState
skipped_lineage w n r k s =
    if touches_from w.runs r (command_at w.runs r k).device.0 (k + 1) then s
    else (if did n r (command_at w.runs r k).device.0 then released r s else removed r s)

abbrev pub skipped_change : Setting → Reading → RunId → CommandIndex → DeviceId
    → LineageState → LineageState
skipped_change w n r k d s =
    if d == (command_at w.runs r k).device.0 then skipped_lineage w n r k s else s

-- A run is doomed

abbrev pub has_acquired : RunId → LineageState → Bool
has_acquired r s = unwrap_or (option_map is_acquired (status_of r s.accesses)) false

-- it is done with the device that it has acquired, ..
abbrev pub doomed_lineage : RunId → LineageState → LineageState
doomed_lineage r s = released_if (has_acquired r s) r s

-- .. but not with this one, where one is named
abbrev pub is_named_device : Option DeviceNo → DeviceId → Bool
is_named_device out d = unwrap_or (option_map (λ e. e.0 == d) out) false

abbrev pub doomed_unless : Option DeviceNo → RunId → DeviceId → LineageState → LineageState
doomed_unless out r d s = if is_named_device out d then s else doomed_lineage r s

-- .. which is the one that is out for its command
abbrev pub doomed_change : Grips → RunId → DeviceId → LineageState → LineageState
doomed_change g r d s = if grips_command g r d then s else doomed_lineage r s

-- A write is undone

-- the run is undone on the device
abbrev pub undone_change : RunId → DeviceId → DeviceId → LineageState → LineageState
undone_change r d e s = if e == d then undone r s else s

-- A device fails or comes back

-- it is counted so
abbrev pub turned_change : DeviceId → Bool → DeviceId → LineageState → LineageState
turned_change d up e s = if e == d then counted_up up s else s
