-- What belongs to one window: a lineage table, a line with its touches, a history and a roster.
use Rattle.command_rules.specs.Rosters.{Run, command_at, commands_of, followed_by}
use Rattle.history_book.specs.Histories.{entries_of}
use Rattle.history_book.specs.Settings.{is_weak}
use Rattle.history_book.specs.WellFormed.{IsWellFormed}
use Rattle.history_book.specs.declared.entries.Kept.{Kept}
use Rattle.home_types.specs.Commands.{holds}
use Rattle.home_types.specs.Limits.{most_commands, most_devices, most_runs}
use Rattle.home_types.specs.Numbers.{CommandIndex, DeviceId, RunId}
use Rattle.home_types.specs.declared.commands.Command.{Command}
use Rattle.home_types.specs.declared.items.Item.TheVariants.{Back, Failed, Ran}
use Rattle.home_types.specs.declared.items.Item.{Item}
use Rattle.home_types.specs.declared.numbers.RunNo.{RunNo}
use Rattle.lineage_table.specs.Accesses.{IsDisciplined, has_access}
use Rattle.lineage_table.specs.Lineages.{LineageState, accesses_at}
use Rattle.lock_leasing.specs.Configurations.{Configuration, Grips, point_of, read_of}
use Rattle.lock_leasing.specs.Order.{OrderStands}
use Rattle.lock_leasing.specs.Places.{MayBeOut}
use Rattle.lock_leasing.specs.Tables.{Represents}
use Rattle.lock_leasing.specs.Words.{has_touched}
use Rattle.history_book.specs.Readings.{Reading, is_doomed, is_live, is_next_on, next_of}
use Rattle.serial_line.specs.Marks.{Mark}
use Rattle.serial_line.specs.Ties.{IsLineOf}
use Rattle.std.specs.Prelude.{Bool, List, Some, [], false, is_some, length, slice_get, true, ℕ, ◌<◌, ◌==◌, ◌≡◌, ◌≤◌}

-- the item has touched the device: an event its own, a run those on which it has an access or the
-- grip of a command
abbrev pub item_has_touched : Reading → Grips → Item → DeviceId → Bool
item_has_touched n g (Ran r) d = has_touched n g r.0 d
item_has_touched n g (Failed e k) d = e.0 == d
item_has_touched n g (Back e k) d = e.0 == d

-- the run has ended
abbrev pub has_ended : Reading → RunId → Bool
has_ended n r = is_some (n.run r).ended

-- what the steps of a window are decided by
pub record WindowParts : Type 0 where
  pub table : List LineageState
  pub line : List Mark
  pub history : List Kept
  pub runs : List Run

-- table, line and history, with the runs of the configuration
abbrev pub window_parts : Configuration → List LineageState → List Mark → List Kept → WindowParts
window_parts s table line history =
    record { table = table; line = line; history = history; runs = s.setting.runs }

-- a window of these runs may be opened on a home of so many devices
pub record IsRosterFor (devices : ℕ) (runs : List Run) : Type 0 where
  pub few_devices : devices ≤ most_devices
  pub few_runs : length runs ≤ most_runs
  pub few_commands : (r : RunId) → length (commands_of runs r) ≤ most_commands
  -- each command is on a device of the home
  pub homed : (r : RunId) (k : CommandIndex) (c : Command) → slice_get (commands_of runs r) k
      ≡ Some c → c.device.0 < devices
  -- a run follows an earlier run, or none
  pub follows_earlier : (r : RunId) (f : RunNo) → followed_by runs r ≡ Some f → f.0 < r

-- the parts are those of the configuration, which is not of the weak model: its runs may be opened,
-- its history is well formed, its grips may be out, and the four clauses of the order hold
pub record IsStandingOf (s : Configuration) (parts : WindowParts) : Type 0 where
  pub ordered : is_weak s.setting.mode ≡ false
  pub allowed : IsRosterFor (length s.setting.first) s.setting.runs
  pub grips : MayBeOut (point_of s)
  pub well_formed : IsWellFormed s.setting (entries_of s.history)
  pub order : OrderStands (point_of s)
  pub its_roster : s.setting.runs ≡ parts.runs
  pub its_history : s.history ≡ parts.history
  pub its_line : IsLineOf (read_of s).line (item_has_touched (read_of s) s.grips)
      (has_ended (read_of s)) parts.line
  pub disciplined : (d : DeviceId) → IsDisciplined (accesses_at parts.table d)
  pub its_table : Represents (point_of s) parts.table

-- the parts are those of a configuration of the weak model, whose table has no accesses
pub record IsWeakStandingOf (s : Configuration) (parts : WindowParts) : Type 0 where
  pub weak : is_weak s.setting.mode ≡ true
  pub allowed : IsRosterFor (length s.setting.first) s.setting.runs
  pub its_roster : s.setting.runs ≡ parts.runs
  pub its_history : s.history ≡ parts.history
  pub none : (d : DeviceId) → accesses_at parts.table d ≡ []

-- the run may do its next command, the one of this number: it is live, it is not doomed, it has
-- such a command, and the command's guard holds
pub record IsAtCommand (s : Configuration) (r : RunId) (c : CommandIndex) : Type 0 where
  pub live : is_live (read_of s) r ≡ true
  pub sound : is_doomed (read_of s) r ≡ false
  pub next : next_of (read_of s) r ≡ c
  pub command : c < length (commands_of s.setting.runs r)
  pub guard : holds (command_at s.setting.runs r c).when ((read_of s).run r).register ≡ true

-- the parts belong to one window, which is not of the weak model, and the run may do this command
pub data MayTouch (parts : WindowParts) (r : RunId) (c : CommandIndex) : Type 0 where
  Touching : (s : Configuration) (stands : IsStandingOf s parts) (turn : IsAtCommand s r c)
      → MayTouch parts r c

-- the run may do its next command, which is on the device
pub record IsAsking (s : Configuration) (r : RunId) (d : DeviceId) : Type 0 where
  pub live : is_live (read_of s) r ≡ true
  pub sound : is_doomed (read_of s) r ≡ false
  pub next : is_next_on s.setting (read_of s) r d ≡ true

-- the parts belong to one window, which is not of the weak model, and the run asks for the device
pub data MayAsk (parts : WindowParts) (r : RunId) (d : DeviceId) : Type 0 where
  Asking : (s : Configuration) (stands : IsStandingOf s parts) (turn : IsAsking s r d)
      → MayAsk parts r d

-- the parts belong to one window, which is not of the weak model, and the run has an access to the
-- device
pub data MayLease (parts : WindowParts) (r : RunId) (d : DeviceId) : Type 0 where
  Leasing : (s : Configuration) (stands : IsStandingOf s parts)
      (access : has_access r (accesses_at parts.table d) ≡ true) → MayLease parts r d
