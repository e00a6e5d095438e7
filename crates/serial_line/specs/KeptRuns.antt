-- The runs of a window as a line keeps them: their devices, and whom they follow.
use Rattle.command_rules.specs.Rosters.{Run, device_no, follows, is_run, no_command, touches}
use Rattle.home_types.specs.Limits.{most_runs}
use Rattle.home_types.specs.Listed.{Listed}
use Rattle.home_types.specs.Numbers.{DeviceId, RunId}
use Rattle.home_types.specs.contracts.commands.Command as the_command
use Rattle.home_types.specs.contracts.numbers.RunNo as the_number
use Rattle.home_types.specs.declared.commands.Command.{Command}
use Rattle.home_types.specs.declared.items.Item.TheVariants.{Back, Failed, Ran}
use Rattle.home_types.specs.declared.items.Item.{Item}
use Rattle.home_types.specs.declared.numbers.RunNo.{RunNo}
use Rattle.serial_line.specs.declared.kept_runs.KeptRun.{KeptRun}
use Rattle.std.specs.Coded.{Coded, code_by, coded_list, coded_option, coded×}
use Rattle.std.specs.FinSet as set
use Rattle.std.specs.Prelude.{Bool, List, Option, [], length, map, refl, true, ◌+◌, ◌++◌, ◌==◌, ◌∷◌, ◌≡◌, ◌≤◌}

-- a run is stored as the tuple of its fields
abbrev pub run_code : Coded Run
run_code =
    code_by (List Command × Option RunNo)
    (coded× (coded_list the_command.the_row.coded) (coded_option the_number.the_row.coded))
    (λ run. (run.commands, run.follows))
    (λ p. record { commands = p.0; follows = p.1 }) (λ run. refl)

-- some command on the device
abbrev pub on_device : DeviceId → Command
on_device d = record no_command { device = device_no d }

-- a run with one command for each of the devices that are kept of it
abbrev pub kept_run : KeptRun → Run
kept_run kept = record { commands = map on_device (set.items kept.devices); follows = kept.follows }

-- the runs have what is kept of these: who there is, their devices, and whom they follow
pub record AreKeptOf (runs kept : List Run) : Type 0 where
  pub there : (r : RunId) → is_run kept r ≡ is_run runs r
  pub touched : (r : RunId) (d : DeviceId) → touches kept r d ≡ touches runs r d
  pub followed : (r f : RunId) → follows kept r f ≡ follows runs r f

-- of whatever runs these were kept, they are kept now of those with one run more
abbrev pub KeepsOneMore : List Run → List Run → Run → Type 0
KeepsOneMore old new q =
    (runs : List Run) → AreKeptOf runs old → AreKeptOf (runs ++ q ∷ []) new

-- what is kept, and the room beside it, are no fewer than the runs that a window may have
abbrev pub HasRoomForRuns : Listed KeptRun → Type 0
HasRoomForRuns runs = most_runs ≤ length runs.items + runs.spare

-- the device is one of the item's: an event has its own
abbrev pub has_device : List Run → DeviceId → Item → Bool
has_device runs d (Ran r) = touches runs r.0 d
has_device runs d (Failed e k) = d == e.0
has_device runs d (Back e k) = d == e.0

-- the item is an event, or one of these runs
abbrev pub is_known : List Run → Item → Bool
is_known runs (Ran r) = is_run runs r.0
is_known runs (Failed d k) = true
is_known runs (Back d k) = true
