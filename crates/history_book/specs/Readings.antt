-- What the reading of a history tells, and the words that need its entries alone.
use Rattle.command_rules.specs.Rosters.{commands_of, is_on, touches, touches_from}
use Rattle.history_book.specs.Settings.{Setting}
use Rattle.history_book.specs.declared.entries.Cause.{Cause}
use Rattle.history_book.specs.declared.entries.End.{End}
use Rattle.history_book.specs.declared.entries.End.TheVariants.{Aborted, Committed}
use Rattle.home_types.specs.Commands.{holds}
use Rattle.home_types.specs.HomeStates.{stand_at}
use Rattle.home_types.specs.Numbers.{CommandIndex, DeviceId, LinePlace, Moment, RunId}
use Rattle.home_types.specs.declared.commands.Answer.{Answer}
use Rattle.home_types.specs.declared.commands.Answer.TheVariants.{Down, Fine, Found, Skipped}
use Rattle.home_types.specs.declared.commands.Command.{Command}
use Rattle.home_types.specs.declared.items.Item.{Item}
use Rattle.home_types.specs.declared.items.Item.TheVariants.{Back, Failed, Ran}
use Rattle.std.specs.Prelude.{Bool, List, None, Option, Some, [], false, filter_map, if◌then◌else◌, is_none, is_some, length, not, option_map, slice_get, take_while, true, unwrap_or, ℕ, ◌&&◌, ◌==◌, ◌∷◌}

-- of one run on one device
pub record OnDevice : Type 0 where
  -- whether the run sees the device up, by its first answer there that is an access; none before
  -- that
  pub view : Option Bool
  -- the first value that it found before it had written
  pub found : Option ℕ
  -- the last value that it wrote
  pub wrote : Option ℕ
  -- its write was undone
  pub undid : Bool
  -- its first access came when it was doomed
  pub late : Bool

-- the planned times of one command, in ms
pub record Planned : Type 0 where
  pub device : DeviceId
  pub from : Moment
  pub to : Moment

pub record PlacedAt : Type 0 where
  pub place : LinePlace
  pub moment : Moment
  -- the number of entries before it
  pub stamp : ℕ

pub record OfRun : Type 0 where
  pub arrived : Option Moment
  pub placed : Option PlacedAt
  pub planned : List Planned
  pub answers : List Answer
  pub register : ℕ
  pub doomed : Option Cause
  -- a command was answered after that
  pub answered_doomed : Bool
  pub ended : Option End
  pub on : DeviceId → OnDevice

-- what stands in a device's own log
pub data LogMark : Type 0 where
  -- this run had its first access on the device
  First : RunId → LogMark
  -- the device failed or came back
  Event : Item → LogMark
  -- the last command of this run on the device was answered
  Last : RunId → LogMark

pub record Reading : Type 0 where
  pub run : RunId → OfRun
  -- counted up
  pub up : DeviceId → Bool
  -- how often the device failed, and came back
  pub fell : DeviceId → ℕ
  pub rose : DeviceId → ℕ
  -- the value of the last write that worked, in history order
  pub last : DeviceId → ℕ
  -- the serialization line
  pub line : List Item
  pub log : DeviceId → List LogMark
  pub moment : Moment
  -- the number of entries
  pub size : ℕ

-- the function with another value at one place
abbrev pub put : {A : Type 0} → (ℕ → A) → ℕ → A → ℕ → A
put f k v n = if n == k then v else f n

-- nothing has happened on the device
abbrev pub untouched_device : OnDevice
untouched_device = record { view = None; found = None; wrote = None; undid = false; late = false }

-- nothing has happened to the run
abbrev pub unread : OfRun
unread = record {
  arrived = None;
  placed = None;
  planned = [];
  answers = [];
  register = 0;
  doomed = None;
  answered_doomed = false;
  ended = None;
  on = λ d. untouched_device;
}

-- the reading of an empty history
abbrev pub nothing_read : Setting → Reading
nothing_read w = record {
  run = λ r. unread;
  up = λ d. (stand_at w.first d).up;
  fell = λ d. 0;
  rose = λ d. 0;
  last = λ d. (stand_at w.first d).value;
  line = [];
  log = λ d. [];
  moment = 0;
  size = 0;
}

-- Answers

-- how a run sees its device after this answer, if the answer is an access to it
abbrev pub view_by : Answer → Option Bool
view_by Fine = Some true
view_by (Found x) = Some true
view_by Down = Some false
view_by Skipped = None

-- the answer counts as an access to its device
abbrev pub is_access : Answer → Bool
is_access a = is_some (view_by a)

-- a device call gave the answer
abbrev pub is_told : Answer → Bool
is_told Fine = true
is_told (Found x) = true
is_told Down = false
is_told Skipped = false

abbrev pub is_fine : Answer → Bool
is_fine Fine = true
is_fine (Found x) = false
is_fine Down = false
is_fine Skipped = false

abbrev pub same_answer : Answer → Answer → Bool
same_answer Fine Fine = true
same_answer (Found x) (Found y) = x == y
same_answer Down Down = true
same_answer Skipped Skipped = true
same_answer a b = false

-- Runs

-- placed and not ended
abbrev pub is_live : Reading → RunId → Bool
is_live n r = is_some (n.run r).placed && is_none (n.run r).ended

abbrev pub is_doomed : Reading → RunId → Bool
is_doomed n r = is_some (n.run r).doomed

abbrev pub is_committing : End → Bool
is_committing Committed = true
is_committing (Aborted cause) = false

abbrev pub is_committed : Reading → RunId → Bool
is_committed n r = unwrap_or (option_map is_committing (n.run r).ended) false

-- the number of its next command
abbrev pub next_of : Reading → RunId → CommandIndex
next_of n r = length (n.run r).answers

abbrev pub next_command : Setting → Reading → RunId → Option Command
next_command w n r = slice_get (commands_of w.runs r) (next_of n r)

abbrev pub is_next_on : Setting → Reading → RunId → DeviceId → Bool
is_next_on w n r d = unwrap_or (option_map (is_on d) (next_command w n r)) false

-- .. and the guard of that command holds of its register
abbrev pub asks_on : Setting → Reading → RunId → DeviceId → Bool
asks_on w n r d =
    unwrap_or (option_map (λ c. is_on d c && holds c.when (n.run r).register) (next_command w n r))
    false

-- Runs and devices

abbrev pub view_of : Reading → RunId → DeviceId → Option Bool
view_of n r d = ((n.run r).on d).view

-- it has an answer on the device that counts as an access
abbrev pub did : Reading → RunId → DeviceId → Bool
did n r d = is_some (view_of n r d)

abbrev pub sees_down : Reading → RunId → DeviceId → Bool
sees_down n r d = unwrap_or (option_map not (view_of n r d)) false

abbrev pub sees_up : Reading → RunId → DeviceId → Bool
sees_up n r d = unwrap_or (view_of n r d) false

-- a command of it on the device is still pending: it has no answer yet
abbrev pub pends : Setting → Reading → RunId → DeviceId → Bool
pends w n r d = touches_from w.runs r d (next_of n r)

abbrev pub has_written : Reading → RunId → DeviceId → Bool
has_written n r d = is_some ((n.run r).on d).wrote

-- live, not doomed, and a command on the device is pending
abbrev pub is_open : Setting → Reading → RunId → DeviceId → Bool
is_open w n r d = is_live n r && not (is_doomed n r) && pends w n r d

-- its commands on the device are all answered, and none of the answers was an access
abbrev pub passed_by : Setting → Reading → RunId → DeviceId → Bool
passed_by w n r d = touches w.runs r d && not (pends w n r d) && not (did n r d)

-- The log of a device

abbrev pub is_first_mark : RunId → LogMark → Bool
is_first_mark r (First q) = q == r
is_first_mark r (Event i) = false
is_first_mark r (Last q) = false

abbrev pub is_last_mark : RunId → LogMark → Bool
is_last_mark r (First q) = false
is_last_mark r (Event i) = false
is_last_mark r (Last q) = q == r

abbrev pub is_event : LogMark → Bool
is_event (First r) = false
is_event (Event i) = true
is_event (Last r) = false

abbrev pub is_fall : LogMark → Bool
is_fall (First r) = false
is_fall (Event i) = is_failure i
  where
    is_failure : Item → Bool
    is_failure (Ran r) = false
    is_failure (Failed d k) = true
    is_failure (Back d k) = false
is_fall (Last r) = false

-- the run's span in the log: what stands behind its first access, up to the answer to its last
-- command
abbrev pub span_of : RunId → List LogMark → List LogMark
span_of r [] = []
span_of r (m ∷ ms) =
    if is_first_mark r m then take_while (λ x. not (is_last_mark r x)) ms else span_of r ms

-- the failures and restarts of the log, in history order
abbrev pub events_of : List LogMark → List Item
events_of marks = filter_map event_of marks
  where
    event_of : LogMark → Option Item
    event_of (First r) = None
    event_of (Event i) = Some i
    event_of (Last r) = None
