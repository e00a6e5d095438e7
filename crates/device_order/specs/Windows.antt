-- What is kept of a window, and what it promises.
use Rattle.command_rules.specs.Rosters.{Run, commands_of, run_no}
use Rattle.command_rules.specs.Serial.{serial_execution}
use Rattle.device_order.specs.Invariant.{DeviceInvariant}
use Rattle.device_order.specs.LineEntries.{entries}
use Rattle.device_order.specs.LineOrders.{EventsAreHomed, serial_order, served}
use Rattle.device_order.specs.Records.{DeviceRecord, walk_start}
use Rattle.device_order.specs.RunStates.{RunState, RunStates, answered_commands, device_summary, rest, uses_device}
use Rattle.device_order.specs.Summaries.{AnswersFit, AreHomed, NoCommandFails, blank}
use Rattle.device_order.specs.Walks.{walk_end}
use Rattle.device_order.specs.declared.records.Probe.{Probe}
use Rattle.device_order.specs.declared.records.Probe.TheVariants.{Unprobed}
use Rattle.home_types.specs.HomeStates.{stand_at}
use Rattle.home_types.specs.Numbers.{DeviceId, RunId}
use Rattle.home_types.specs.declared.items.Item.{Item}
use Rattle.home_types.specs.declared.items.Item.TheVariants.{Ran}
use Rattle.home_types.specs.declared.kinds.Kind.{Kind}
use Rattle.home_types.specs.declared.worlds.Stand.{Stand}
use Rattle.std.specs.Prelude.{Bool, List, false, is_some, length, true, ℕ, ◌++◌, ◌<◌, ◌∷◌, ◌≡◌, ◌≤◌}

-- a window: its runs, the state of its home at the start, its line, what is known of each run, and
-- of each device whether it is counted up, where it stands or stood as it went out, and its probe
pub record WindowModel : Type 0 where
  pub runs : List Run
  pub first : List Stand
  pub line : List Item
  pub states : RunStates
  pub up : DeviceId → Bool
  pub held : DeviceId → ℕ
  pub probe : DeviceId → Probe

-- one device of a window
abbrev pub device_record : List Kind → WindowModel → DeviceId → DeviceRecord
device_record kinds s d = record {
  order = entries kinds s.states d s.line;
  first_up = (stand_at s.first d).up;
  first = (stand_at s.first d).value;
  up = s.up d;
  held = s.held d;
  probe = s.probe d;
}

-- one run of a home with n devices: where it is not doomed, its answers fit one another and no must
-- command failed; where it is committed, all is answered
pub record RunInvariant (kinds : List Kind) (n : ℕ) (r : RunState) : Type 0 where
  pub homed : AreHomed n r.commands
  pub size : length r.answers ≤ length r.commands
  pub fit : r.doomed ≡ false → AnswersFit kinds blank (answered_commands r)
  pub none_fails : r.doomed ≡ false → NoCommandFails (answered_commands r)
  pub whole : r.committed ≡ true → (r.doomed ≡ false) × (length r.answers ≡ length r.commands)

-- the invariant of each device and of each run
pub record WindowInvariant (kinds : List Kind) (s : WindowModel) : Type 0 where
  pub devices : (d : DeviceId) → d < length s.first → DeviceInvariant (device_record kinds s d)
  pub runs : (r : RunId) → RunInvariant kinds (length s.first) (s.states r)
  pub commands : (r : RunId) → (s.states r).commands ≡ commands_of s.runs r
  pub events : EventsAreHomed (length s.first) s.line

-- the value of the last committed write in line order, else the first value
abbrev pub walked_value : List Kind → WindowModel → DeviceId → ℕ
walked_value kinds s d =
    (walk_end (walk_start (stand_at s.first d).up (stand_at s.first d).value)
    (entries kinds s.states d s.line)).value

-- the serial execution of the line's order is not refused, gives the committed runs their answers,
-- and ends with each device at its committed value, up or down as it is counted
pub record OrderIsSerial (kinds : List Kind) (s : WindowModel) : Type 0 where
  pub refused : (serial_execution s.runs kinds s.first (serial_order s.states s.line)).refused
      ≡ false
  pub answers : (serial_execution s.runs kinds s.first (serial_order s.states s.line)).answers
      ≡ served s.states s.line
  pub size : length (serial_execution s.runs kinds s.first (serial_order s.states s.line)).home
      ≡ length s.first
  pub stands : (d : DeviceId) → d < length s.first
      → stand_at (serial_execution s.runs kinds s.first (serial_order s.states s.line)).home d
      ≡ record { value = walked_value kinds s d; up = s.up d }

-- where each run of the line has committed: the serial execution of the whole line is not refused,
-- gives its runs their answers, and leaves each device up or down as it is counted, and where it
-- stands if it is home and up
pub record LineIsWhole (kinds : List Kind) (s : WindowModel) : Type 0 where
  pub refused : (serial_execution s.runs kinds s.first s.line).refused ≡ false
  pub answers : (serial_execution s.runs kinds s.first s.line).answers ≡ served s.states s.line
  pub size : length (serial_execution s.runs kinds s.first s.line).home ≡ length s.first
  pub up : (d : DeviceId) → d < length s.first
      → (stand_at (serial_execution s.runs kinds s.first s.line).home d).up ≡ s.up d
  pub stands : (d : DeviceId) → d < length s.first → s.probe d ≡ Unprobed → s.up d ≡ true
      → (stand_at (serial_execution s.runs kinds s.first s.line).home d).value ≡ s.held d

-- one run stands before another in the line, with this part between them
pub record StandsBefore (x w : RunId) (line : List Item) : Type 0 where
  pub front : List Item
  pub between : List Item
  pub back : List Item
  pub at : line ≡ front ++ Ran (run_no x) ∷ (between ++ Ran (run_no w) ∷ back)

-- the run is live and not doomed, and a command of it on the device has no answer
pub record IsPendingAt (s : WindowModel) (d : DeviceId) (r : RunId) : Type 0 where
  pub live : (s.states r).committed ≡ false
  pub counts : (s.states r).doomed ≡ false
  pub left : uses_device d (rest (s.states r)) ≡ true

-- the run is live, it wrote the device, and no entry undid that
pub record HasLiveWriteAt (kinds : List Kind) (s : WindowModel) (d : DeviceId)
    (r : RunId) : Type 0 where
  pub live : (s.states r).committed ≡ false
  pub wrote : is_some (device_summary kinds (s.states r) d).wrote ≡ true
  pub kept : (s.states r).undid d ≡ false

-- a committed run that wrote the device stands in this part of the line
pub record IsCovered (kinds : List Kind) (states : RunStates) (d : DeviceId)
    (part : List Item) : Type 0 where
  pub run : RunId
  pub front : List Item
  pub back : List Item
  pub at : part ≡ front ++ Ran (run_no run) ∷ back
  pub committed : (states run).committed ≡ true
  pub wrote : is_some (device_summary kinds (states run) d).wrote ≡ true
