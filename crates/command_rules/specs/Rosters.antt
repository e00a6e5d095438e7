-- Words on the runs of a window. Runs count from 1, devices and commands from 0.
use Rattle.command_rules.specs.Searches.{last_place}
use Rattle.command_rules.specs.declared.rosters.Roster.{Roster}
use Rattle.command_rules.specs.declared.rosters.RosterRun.{RosterRun}
use Rattle.home_types.specs.Commands.{is_always, reads, writes}
use Rattle.home_types.specs.Numbers.{CommandIndex, DeviceId, RunId}
use Rattle.home_types.specs.declared.commands.Command.{Command}
use Rattle.home_types.specs.declared.commands.Guard.TheVariants.{Always}
use Rattle.home_types.specs.declared.commands.Job.TheVariants.{Load}
use Rattle.home_types.specs.declared.numbers.DeviceNo.{DeviceNo}
use Rattle.home_types.specs.declared.numbers.RunNo.{RunNo}
use Rattle.std.specs.List.{list_any}
use Rattle.std.specs.Prelude.{Bool, List, None, Option, [], drop, false, filter, if◌then◌else◌, is_some, map, not, option_and_then, option_map, position, slice_get, slice_index_or, suc, unwrap_or, zero, ℕ, ◌&&◌, ◌+◌, ◌==◌, ◌||◌, ◌∷◌}

abbrev pub run_no : RunId → RunNo
run_no r = record { 0 = r }

abbrev pub device_no : DeviceId → DeviceNo
device_no d = record { 0 = d }

-- a run of a window: the commands of its routine, and the run that it follows
pub record Run : Type 0 where
  pub commands : List Command
  pub follows : Option RunNo

abbrev pub plain_run : RosterRun → Run
plain_run run = record { commands = run.routine.commands.items; follows = run.follows }

-- the runs of a roster, in the order of their numbers
abbrev pub runs_of : Roster → List Run
runs_of roster = map plain_run roster.runs.items

abbrev pub run_in_roster : List Run → RunId → Option Run
run_in_roster runs zero = None
run_in_roster runs (suc i) = slice_get runs i

abbrev pub is_run : List Run → RunId → Bool
is_run runs r = is_some (run_in_roster runs r)

abbrev pub commands_of : List Run → RunId → List Command
commands_of runs r = unwrap_or (option_map (λ run. run.commands) (run_in_roster runs r)) []

abbrev pub no_command : Command
no_command =
    record { device = device_no 0; job = Load; when = Always; must = false; ms = 0; takes = 0 }

abbrev pub command_at : List Run → RunId → CommandIndex → Command
command_at runs r c = slice_index_or (commands_of runs r) c no_command

abbrev pub followed_by : List Run → RunId → Option RunNo
followed_by runs r = option_and_then (λ run. run.follows) (run_in_roster runs r)

abbrev pub follows : List Run → RunId → RunId → Bool
follows runs r f = unwrap_or (option_map (λ q. q.0 == f) (followed_by runs r)) false

abbrev pub is_on : DeviceId → Command → Bool
is_on d c = c.device.0 == d

-- the device is in the run's footprint: some command of the run is on it
abbrev pub touches : List Run → RunId → DeviceId → Bool
touches runs r d = list_any (is_on d) (commands_of runs r)

-- a command from this number on is on the device
abbrev pub touches_from : List Run → RunId → DeviceId → CommandIndex → Bool
touches_from runs r d c = list_any (is_on d) (drop c (commands_of runs r))

-- the number of its first command on the device
abbrev pub first_on : List Run → RunId → DeviceId → Option CommandIndex
first_on runs r d = position (is_on d) (commands_of runs r)

-- the number of its last command on the device
abbrev pub last_on : List Run → RunId → DeviceId → Option CommandIndex
last_on runs r d = last_place (is_on d) (commands_of runs r)

-- the command is the run's last one on its device
abbrev pub is_last : List Run → RunId → CommandIndex → Bool
is_last runs r k = not (touches_from runs r (command_at runs r k).device.0 (suc k))

-- one of these commands reads, and no command with the guard Always before it writes
abbrev pub reads_unwritten : List Command → Bool
reads_unwritten [] = false
reads_unwritten (c ∷ cs) =
    reads c.job || (not (is_always c.when && writes c.job) && reads_unwritten cs)

-- a command of it on the device reads, and no command on the device with the guard Always before it
-- writes
abbrev pub reads_first : List Run → RunId → DeviceId → Bool
reads_first runs r d = reads_unwritten (filter (is_on d) (commands_of runs r))

-- the command decides whether the device is read first: it is on the device, and reads or is not
-- skipped
abbrev pub settles : DeviceId → Command → Bool
settles d c = is_on d c && (reads c.job || is_always c.when)

-- some command of it on the device writes
abbrev pub writes_on : List Run → RunId → DeviceId → Bool
writes_on runs r d = list_any (λ c. is_on d c && writes c.job) (commands_of runs r)

-- some device is in the footprint of both
abbrev pub shares : List Run → RunId → RunId → Bool
shares runs a b = list_any (λ c. touches runs b c.device.0) (commands_of runs a)

-- the sum of the estimates up to and with the last command on the device, 0 where there is none
abbrev pub estimate_to_last : DeviceId → List Command → ℕ
estimate_to_last d [] = 0
estimate_to_last d (c ∷ cs) =
    if list_any (is_on d) (c ∷ cs) then c.ms + estimate_to_last d cs else 0
