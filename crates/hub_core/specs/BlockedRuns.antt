-- Runs that are known to wait at every moment, and the steps that end no wait of theirs.
use Rattle.command_rules.specs.Rosters.{command_at, is_run, touches}
use Rattle.history_book.specs.Histories.{entries_of}
use Rattle.history_book.specs.Readings.{Reading, asks_on, is_doomed, is_live, next_command}
use Rattle.history_book.specs.Settings.{Setting, is_strict, is_weak}
use Rattle.history_book.specs.declared.entries.Entry.{Entry}
use Rattle.history_book.specs.declared.entries.Entry.TheVariants.{Arrived, Did, Doomed, Ended, Fell, Placed, Rose, Undid}
use Rattle.history_book.specs.declared.entries.Kept.{Kept}
use Rattle.home_types.specs.Numbers.{DeviceId, LinePlace, Moment, RunId}
use Rattle.home_types.specs.declared.numbers.RunNo.{RunNo}
use Rattle.hub_core.specs.Steps.{Absent, Choice, HandsOut, Moves, Over, Waits, choice_of}
use Rattle.lock_leasing.specs.Configurations.{Configuration, point_of, read_of}
use Rattle.lock_leasing.specs.Leases.{NeverOverdue}
use Rattle.lock_leasing.specs.Waits.{grip_wait}
use Rattle.std.specs.List.{list_all}
use Rattle.std.specs.Prelude.{Bool, List, None, Option, [], false, if◌then◌else◌, is_none, length, not, option_map, true, ◌&&◌, ◌++◌, ◌+◌, ◌==◌, ◌∷◌, ◌≡◌, ◌≤◌, ◌⊎◌}

-- the run is told to wait
abbrev pub is_wait : Choice → Bool
is_wait Absent = false
is_wait (Over e entries) = false
is_wait (Moves entries) = false
is_wait (Waits why) = true
is_wait (HandsOut d purpose) = false

-- the run is at a command: live, not doomed, with no grip
abbrev pub is_at_command : Configuration → RunId → Bool
is_at_command s r =
    is_live (read_of s) r && not (is_doomed (read_of s) r)
    && is_none (grip_wait s.setting s.grips r)

-- the device of the next command of a run that is at a command
abbrev pub next_device : Configuration → RunId → Option DeviceId
next_device s r =
    if is_at_command s r then option_map (λ c. c.device.0) (next_command s.setting (read_of s) r)
    else None

-- the run holds no grip, and waits at every moment
pub record IsBlocked (s : Configuration) (r : RunId) : Type 0 where
  pub run : is_run s.setting.runs r ≡ true
  pub free : grip_wait s.setting s.grips r ≡ None
  pub waits : (m : Moment) → is_wait (choice_of s r m) ≡ true

-- at no moment does the run, whose next command is on the device, find a lease there overdue; under
-- the weak model it looks for none, nor where it skips the command
abbrev pub NeverRevokes : Configuration → RunId → DeviceId → Type 0
NeverRevokes s r d =
    is_weak s.setting.mode ≡ false → asks_on s.setting (read_of s) r d ≡ true
    → NeverOverdue (point_of s) r d

-- the entry ends no wait of a run whose next command is on the device: it is of another device; or
-- the doom of a run that does not use it, or under a model that is not strict its placing or its
-- end
abbrev pub is_quiet : Setting → DeviceId → Entry → Bool
is_quiet w d (Arrived r m) = true
is_quiet w d (Placed r at m) = not (is_strict w.mode) && not (touches w.runs r.0 d)
is_quiet w d (Did r c a) = not ((command_at w.runs r.0 c).device.0 == d)
is_quiet w d (Undid r e drove) = not (e.0 == d)
is_quiet w d (Fell e) = not (e.0 == d)
is_quiet w d (Rose e) = not (e.0 == d)
is_quiet w d (Doomed r cause) = not (touches w.runs r.0 d)
is_quiet w d (Ended r e) = not (is_strict w.mode) && not (touches w.runs r.0 d)

-- the entries are the placing of a run at the end of the line, after which the window reads so
pub record IsPlacedLast (n : Reading) (entries : List Entry) : Type 0 where
  pub run : RunNo
  pub place : LinePlace
  pub moment : Moment
  pub only : entries ≡ Placed run place moment ∷ []
  pub last : length n.line ≡ place + 1

-- the entries of a step, after which the window reads so, end no wait of a run whose next command
-- is on the device
abbrev pub EndNoWait : Setting → Reading → DeviceId → List Entry → Type 0
EndNoWait w n d entries = IsPlacedLast n entries ⊎ (list_all (is_quiet w d) entries ≡ true)

-- a step of another actor that is elsewhere: it makes these entries, which end no wait, leaves the
-- grip of the device, and gives the run none
pub record IsElsewhere (s t : Configuration) (made : List Kept) (r : RunId)
    (d : DeviceId) : Type 0 where
  pub setting : t.setting ≡ s.setting
  pub history : t.history ≡ s.history ++ made
  pub quiet : EndNoWait s.setting (read_of t) d (entries_of made)
  pub moment : s.moment ≤ t.moment
  pub held : t.grips d ≡ s.grips d
  pub free : grip_wait s.setting t.grips r ≡ None
