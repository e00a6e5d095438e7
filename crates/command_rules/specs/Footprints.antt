-- Footprints of runs, kept as sets of devices with a bit for each command.
use Rattle.command_rules.specs.Rosters.{Run, commands_of, is_on, no_command, reads_first, writes_on}
use Rattle.command_rules.specs.declared.indexed_rosters.Footprint.{Footprint}
use Rattle.home_types.specs.Limits.{most_commands, most_devices}
use Rattle.home_types.specs.Numbers.{CommandIndex, DeviceId, RunId}
use Rattle.home_types.specs.declared.commands.Command.{Command}
use Rattle.std.specs.FinSet as set
use Rattle.std.specs.Int.{bit_at}
use Rattle.std.specs.List.{list_any}
use Rattle.std.specs.Prelude.{Bool, List, None, Some, [], drop, length, not, slice_get, slice_index_or, suc, ℕ, ◌<◌, ◌==◌, ◌∷◌, ◌≡◌, ◌≤◌}

-- each run has no more commands than a routine may have, each on a device that a home may have
pub record FitsIndex (runs : List Run) : Type 0 where
  pub few_commands : (r : RunId) → length (commands_of runs r) ≤ most_commands
  pub low_devices : (r : RunId) (k : CommandIndex) (c : Command) → slice_get (commands_of runs r) k
      ≡ Some c → c.device.0 < most_devices

-- no later command is on the device of this one
abbrev pub ends_use : List Command → CommandIndex → Bool
ends_use commands k =
    not (list_any (is_on (slice_index_or commands k no_command).device.0) (drop (suc k) commands))

-- the runs of a window of one run, with these commands
abbrev pub alone : List Command → List Run
alone commands = record { commands = commands; follows = None } ∷ []

-- the sets have the devices of the commands, those that a run of them reads first, and those that
-- it writes; a bit says of each command whether it is the last one on its device
pub record IsFootprint (commands : List Command) (footprint : Footprint) : Type 0 where
  pub devices : (d : DeviceId) → set.contains footprint.devices d ≡ list_any (is_on d) commands
  pub lasts : (k : CommandIndex) → k < length commands
      → (bit_at footprint.lasts k == 1) ≡ ends_use commands k
  pub first_reads : (d : DeviceId) → set.contains footprint.first_reads d
      ≡ reads_first (alone commands) 1 d
  pub written : (d : DeviceId) → set.contains footprint.written d ≡ writes_on (alone commands) 1 d

-- these are the footprints of the first n runs
pub record AreFootprints (n : ℕ) (runs : List Run) (footprints : List Footprint) : Type 0 where
  pub size : length footprints ≡ n
  pub each : (i : ℕ) (f : Footprint) → slice_get footprints i ≡ Some f
      → IsFootprint (commands_of runs (suc i)) f
