-- Which scripts the format allows.
use Rattle.day_clock.specs.Times.{IsCivilTime, is_before}
use Rattle.day_clock.specs.declared.times.When.{When}
use Rattle.home_types.specs.Kinds.{has_value, kind_at}
use Rattle.home_types.specs.Limits.{most_commands, most_devices, most_downs, most_ms, most_probes, most_routines, most_runs, most_states, most_turns, most_windows}
use Rattle.home_types.specs.declared.commands.Command.{Command}
use Rattle.home_types.specs.declared.commands.Guard.TheVariants.{Always, Below, Is}
use Rattle.home_types.specs.declared.commands.Guard.{Guard}
use Rattle.home_types.specs.declared.commands.Job.TheVariants.{Check, Load, Set, Store}
use Rattle.home_types.specs.declared.commands.Job.{Job}
use Rattle.home_types.specs.declared.kinds.Kind.TheVariants.{Range, States}
use Rattle.home_types.specs.declared.kinds.Kind.{Kind}
use Rattle.routine_reader.specs.Devices.{device_names}
use Rattle.routine_reader.specs.Names.{is_among, is_name}
use Rattle.routine_reader.specs.Routines.{routine_names}
use Rattle.routine_reader.specs.Scripts.{PlainDevice, PlainRoutine, PlainScript, PlainWindow}
use Rattle.routine_reader.specs.declared.scripts.RunText.{RunText}
use Rattle.std.specs.Prelude.{All, Bool, IfSome, List, Some, [], false, length, map, slice_get, take, true, ℕ, ◌+◌, ◌<◌, ◌^◌, ◌≡◌, ◌≤◌}

abbrev pub IsName : List ℕ → Type 0
IsName name = is_name name ≡ true

-- no name is among those before it
abbrev pub AreDifferent : List (List ℕ) → Type 0
AreDifferent names =
    (k : ℕ) (name : List ℕ) → slice_get names k ≡ Some name → is_among (take k names) name ≡ false

-- n states have 1 to 256 names, all different; a range has none
abbrev pub IsSoundKind : Kind → List (List ℕ) → Type 0
IsSoundKind (States n) states =
    (n ≡ length states) × (0 < length states) × (length states ≤ most_states) × All IsName states
    × AreDifferent states
IsSoundKind (Range low high) states = (states ≡ []) × (low ≤ high) × (high < 2 ^ 32)

-- from a first call on, which is at least 1, to before a later one
abbrev pub IsSoundDown : ℕ × ℕ → Type 0
IsSoundDown down = (1 ≤ down.0) × (down.0 < down.1) × (down.1 < 2 ^ 32)

pub record IsSoundDevice (device : PlainDevice) : Type 0 where
  pub name : IsName device.name
  pub kind : IsSoundKind device.kind device.states
  pub start : has_value device.kind device.start ≡ true
  pub few_downs : length device.downs ≤ most_downs
  pub downs : All IsSoundDown device.downs

abbrev pub device_kinds : List PlainDevice → List Kind
device_kinds devices = map (λ device. device.kind) devices

-- a value that is driven or compared with is one of the device
abbrev pub suits_device : Kind → Job → Bool
suits_device kind (Set v) = has_value kind v
suits_device kind (Check v) = has_value kind v
suits_device kind Load = true
suits_device kind Store = true

-- the number that a guard compares with the register, 0 where it asks nothing
abbrev pub compared : Guard → ℕ
compared Always = 0
compared (Is v) = v
compared (Below v) = v

pub record IsSoundCommand (devices : List PlainDevice) (command : Command) : Type 0 where
  pub device : command.device.0 < length devices
  pub value : suits_device (kind_at (device_kinds devices) command.device.0) command.job ≡ true
  pub when : compared command.when < 2 ^ 32
  pub ms : command.ms ≤ most_ms
  pub takes : command.takes ≤ most_ms

pub record IsSoundRoutine (devices : List PlainDevice) (routine : PlainRoutine) : Type 0 where
  pub name : IsName routine.name
  pub some_commands : 0 < length routine.commands
  pub few_commands : length routine.commands ≤ most_commands
  pub commands : All (IsSoundCommand devices) routine.commands

-- of a number of routines; the run follows one of the runs before it, of which there are so many
pub record IsSoundRun (routines earlier : ℕ) (run : RunText) : Type 0 where
  pub routine : run.routine < routines
  pub follows : IfSome run.follows (λ followed. (1 ≤ followed.0) × (followed.0 ≤ earlier))

pub record IsSoundWindow (routines : ℕ) (window : PlainWindow) : Type 0 where
  pub at : IsCivilTime window.at
  pub seed : window.seed < 2 ^ 64
  pub probes : window.probes ≤ most_probes
  pub few_turns : length window.turns ≤ most_turns
  pub turns : All (λ turn. turn ≤ length window.runs) window.turns
  pub few_runs : length window.runs ≤ most_runs
  pub runs : (k : ℕ) (run : RunText) → slice_get window.runs k ≡ Some run
      → IsSoundRun routines k run

abbrev pub IsBefore : When → When → Type 0
IsBefore a b = is_before a b ≡ true

-- each window is later than the one before
abbrev pub AreInOrder : List PlainWindow → Type 0
AreInOrder windows =
    (k : ℕ) (a b : PlainWindow) → slice_get windows k ≡ Some a → slice_get windows (k + 1) ≡ Some b
    → IsBefore a.at b.at

-- a script that the format allows
pub record IsSound (script : PlainScript) : Type 0 where
  pub few_devices : length script.devices ≤ most_devices
  pub devices : All IsSoundDevice script.devices
  pub device_names : AreDifferent (device_names script.devices)
  pub few_routines : length script.routines ≤ most_routines
  pub routines : All (IsSoundRoutine script.devices) script.routines
  pub routine_names : AreDifferent (routine_names script.routines)
  pub few_windows : length script.windows ≤ most_windows
  pub windows : All (IsSoundWindow (length script.routines)) script.windows
  pub in_order : AreInOrder script.windows
