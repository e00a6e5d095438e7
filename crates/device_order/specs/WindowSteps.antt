-- The steps of a window: for each kind, what is so before it, and what is so after it.
use Rattle.command_rules.specs.Rosters.{commands_of, device_no, run_no}
use Rattle.device_order.specs.Changes.{probe_for}
use Rattle.device_order.specs.LineChanges.{Lacks, SameBut, line_with_event}
use Rattle.device_order.specs.LineEntries.{command_grip}
use Rattle.device_order.specs.LineWords.{any_run, at_device, is_calm_line, last_in_effect, standing_value_on}
use Rattle.device_order.specs.RunStates.{RunState, device_summary, rest, summary_of, uses_device}
use Rattle.device_order.specs.Summaries.{AreHomed}
use Rattle.device_order.specs.Usages.{has_pending, holds_command, holds_grip, is_seen_down, spans_up}
use Rattle.device_order.specs.Windows.{WindowModel}
use Rattle.device_order.specs.declared.records.HeldGrip.TheVariants.{Free, Reads, Undoes, Writes}
use Rattle.device_order.specs.declared.records.Probe.TheVariants.{Asks, Restores, Unprobed}
use Rattle.home_types.specs.Commands.{driven, fails, holds, reads}
use Rattle.home_types.specs.HomeStates.{stand_at}
use Rattle.home_types.specs.Kinds.{kind_at}
use Rattle.home_types.specs.Numbers.{DeviceId, RunId}
use Rattle.home_types.specs.declared.commands.Answer.{Answer}
use Rattle.home_types.specs.declared.commands.Answer.TheVariants.{Down, Fine, Found, Skipped}
use Rattle.home_types.specs.declared.commands.Command.{Command}
use Rattle.home_types.specs.declared.commands.View.{View}
use Rattle.home_types.specs.declared.commands.View.TheVariants.{Down as ViewDown}
use Rattle.home_types.specs.declared.items.Item.{Item}
use Rattle.home_types.specs.declared.items.Item.TheVariants.{Back, Failed, Ran}
use Rattle.home_types.specs.declared.kinds.Kind.{Kind}
use Rattle.std.specs.Option.{option_map_or}
use Rattle.std.specs.Prelude.{Bool, List, None, Option, Some, [], false, is_some, length, true, ℕ, ◌++◌, ◌<◌, ◌||◌, ◌∷◌, ◌≡◌, ◌≢◌, ◌⊎◌}

-- a device is as it was
pub record IsStill (s s' : WindowModel) (d : DeviceId) : Type 0 where
  pub up : s'.up d ≡ s.up d
  pub held : s'.held d ≡ s.held d
  pub probe : s'.probe d ≡ s.probe d

-- one run of the line changes in its place
pub record ChangesInPlace (s s' : WindowModel) (r : RunId) : Type 0 where
  pub front : List Item
  pub back : List Item
  pub at : s.line ≡ front ++ Ran (run_no r) ∷ back
  pub before : Lacks r front
  pub behind : Lacks r back
  pub line : s'.line ≡ s.line
  pub runs : s'.runs ≡ s.runs
  pub first : s'.first ≡ s.first
  pub others : SameBut r s.states s'.states
  pub commands : (s'.states r).commands ≡ (s.states r).commands

-- a window with an event of a device in its line
abbrev pub with_event_in : List Kind → WindowModel → DeviceId → Item → WindowModel
with_event_in kinds s d i = record s { line = line_with_event kinds s.states d i s.line }

-- no grip and no probe of the device is out
pub record IsHomeAt (kinds : List Kind) (s : WindowModel) (d : DeviceId) : Type 0 where
  pub free : any_run (at_device kinds s.states d holds_grip) s.line ≡ false
  pub unprobed : s.probe d ≡ Unprobed

-- a run gets an answer to its next command, and is doomed by it or not
pub record GetsAnswer (r r' : RunState) (c : Command) (later : List Command) (a : Answer)
    (dooms : Bool) : Type 0 where
  pub next : rest r ≡ c ∷ later
  pub commands : r'.commands ≡ r.commands
  pub answers : r'.answers ≡ r.answers ++ a ∷ []
  pub committed : r'.committed ≡ r.committed
  pub doomed : r'.doomed ≡ (r.doomed || dooms)
  pub undid : (d : DeviceId) → r'.undid d ≡ r.undid d
  pub grip : (d : DeviceId) → d ≢ c.device.0 → r'.grip d ≡ r.grip d
  pub free : r'.grip c.device.0 ≡ Free

-- a run changes in what is no answer of it
pub record KeepsAnswers (r r' : RunState) : Type 0 where
  pub commands : r'.commands ≡ r.commands
  pub answers : r'.answers ≡ r.answers

-- .. and in no more than whether it is committed or doomed
pub record KeepsGrips (r r' : RunState) : Type 0 where
  pub commands : r'.commands ≡ r.commands
  pub answers : r'.answers ≡ r.answers
  pub undid : (d : DeviceId) → r'.undid d ≡ r.undid d
  pub grip : (d : DeviceId) → r'.grip d ≡ r.grip d

-- .. and in no more than what it undid on one device, and what it holds the grip of that device for
pub record KeepsElsewhere (r r' : RunState) (d : DeviceId) : Type 0 where
  pub commands : r'.commands ≡ r.commands
  pub answers : r'.answers ≡ r.answers
  pub committed : r'.committed ≡ r.committed
  pub doomed : r'.doomed ≡ r.doomed
  pub undid : (e : DeviceId) → e ≢ d → r'.undid e ≡ r.undid e
  pub grip : (e : DeviceId) → e ≢ d → r'.grip e ≡ r.grip e

-- a run that has done nothing
pub record HasDoneNothing (r : RunState) : Type 0 where
  pub answers : r.answers ≡ []
  pub committed : r.committed ≡ false
  pub doomed : r.doomed ≡ false
  pub undid : (d : DeviceId) → r.undid d ≡ false
  pub grip : (d : DeviceId) → r.grip d ≡ Free

-- a new run is placed: behind it no run has touched a device of it, and no event of one stands
-- there
pub record RunIsPlaced (kinds : List Kind) (s s' : WindowModel) (r : RunId) : Type 0 where
  pub front : List Item
  pub back : List Item
  pub at : s.line ≡ front ++ back
  pub line : s'.line ≡ front ++ Ran (run_no r) ∷ back
  pub before : Lacks r front
  pub behind : Lacks r back
  pub runs : s'.runs ≡ s.runs
  pub first : s'.first ≡ s.first
  pub others : SameBut r s.states s'.states
  pub commands : (s'.states r).commands ≡ (s.states r).commands
  pub new : HasDoneNothing (s'.states r)
  pub calm : (d : DeviceId) → uses_device d (s'.states r).commands ≡ true
      → is_calm_line kinds s.states d back ≡ true
  pub still : (d : DeviceId) → IsStill s s' d

-- the grip goes out for the next command of a run: no run before it has a command left on the
-- device, and where it reads what it has not written the effective write before it is a committed
-- run's, or there is none
pub record CommandGoesOut (kinds : List Kind) (s s' : WindowModel) (r : RunId) (c : Command)
    (later : List Command) : Type 0 where
  pub place : ChangesInPlace s s' r
  pub keeps : KeepsElsewhere (s.states r) (s'.states r) c.device.0
  pub next : rest (s.states r) ≡ c ∷ later
  pub live : (s.states r).committed ≡ false
  pub counts : (s.states r).doomed ≡ false
  pub undid : (s'.states r).undid c.device.0 ≡ (s.states r).undid c.device.0
  pub out : (s'.states r).grip c.device.0 ≡ command_grip c.job
  pub home : IsHomeAt kinds s c.device.0
  pub up : s.up c.device.0 ≡ true
  pub view : is_seen_down (device_summary kinds (s.states r) c.device.0).view ≡ false
  pub none_before : any_run (at_device kinds s.states c.device.0 has_pending) place.front ≡ false
  pub clean : reads c.job ≡ true → (device_summary kinds (s.states r) c.device.0).wrote ≡ None
      → option_map_or (λ q. (s.states q).committed)
      (last_in_effect kinds s.states c.device.0 None place.front) true ≡ true
  pub still : (d : DeviceId) → IsStill s s' d

-- a write is answered: the device stands at the value that the command drives
pub record WriteIsAnswered (kinds : List Kind) (s s' : WindowModel) (r : RunId) (c : Command)
    (later : List Command) (dooms : Bool) : Type 0 where
  pub place : ChangesInPlace s s' r
  pub answer : GetsAnswer (s.states r) (s'.states r) c later Fine dooms
  pub guard : holds c.when (summary_of kinds (s.states r)).register ≡ true
  pub live : (s.states r).committed ≡ false
  pub out : (s.states r).grip c.device.0 ≡ Writes
  pub job : reads c.job ≡ false
  pub up : s'.up c.device.0 ≡ s.up c.device.0
  pub held : s'.held c.device.0
      ≡ driven (kind_at kinds c.device.0) c.job (summary_of kinds (s.states r)).register
  pub probe : s'.probe c.device.0 ≡ s.probe c.device.0
  pub still : (d : DeviceId) → d ≢ c.device.0 → IsStill s s' d

-- a read is answered with the value at which the device stands; a must command that it refutes
-- dooms the run
pub record ReadIsAnswered (kinds : List Kind) (s s' : WindowModel) (r : RunId) (c : Command)
    (later : List Command) (x : ℕ) (dooms : Bool) : Type 0 where
  pub place : ChangesInPlace s s' r
  pub answer : GetsAnswer (s.states r) (s'.states r) c later (Found x) dooms
  pub guard : holds c.when (summary_of kinds (s.states r)).register ≡ true
  pub live : (s.states r).committed ≡ false
  pub out : (s.states r).grip c.device.0 ≡ Reads
  pub job : reads c.job ≡ true
  pub refutes : fails c (Found x) ≡ true → dooms ≡ true
  pub found : x ≡ s.held c.device.0
  pub still : (d : DeviceId) → IsStill s s' d

-- the device fails at a command of a run: the failure goes into the line, and dooms the run where
-- the command is must or the run had an answer on the device
pub record AccessDies (kinds : List Kind) (s s' : WindowModel) (r : RunId) (k : ℕ) (c : Command)
    (later : List Command) (dooms : Bool) : Type 0 where
  pub place : ChangesInPlace (with_event_in kinds s c.device.0 (Failed c.device k)) s' r
  pub answer : GetsAnswer (s.states r) (s'.states r) c later Down dooms
  pub guard : holds c.when (summary_of kinds (s.states r)).register ≡ true
  pub live : (s.states r).committed ≡ false
  pub out : holds_command ((s.states r).grip c.device.0) ≡ true
  pub must : fails c Down ≡ true → dooms ≡ true
  pub lost : is_some (device_summary kinds (s.states r) c.device.0).view ≡ true → dooms ≡ true
  pub up : s'.up c.device.0 ≡ false
  pub probe : s'.probe c.device.0 ≡ s.probe c.device.0
  pub still : (d : DeviceId) → d ≢ c.device.0 → IsStill s s' d

-- where a command is answered Down with no call: the run sees the device down already, or it is the
-- run's first answer there, the device is home and counted down, and no run before has a command
-- left on it
abbrev pub MayAnswerDown : List Kind → WindowModel → DeviceId → List Item → Option View → Type 0
MayAnswerDown kinds s d front view =
    (view ≡ Some ViewDown) ⊎ ((view ≡ None) × (s.up d ≡ false) × IsHomeAt kinds s d
    × (any_run (at_device kinds s.states d has_pending) front ≡ false))

-- a command is answered Down with no call
pub record DownIsAnswered (kinds : List Kind) (s s' : WindowModel) (r : RunId) (c : Command)
    (later : List Command) (dooms : Bool) : Type 0 where
  pub place : ChangesInPlace s s' r
  pub answer : GetsAnswer (s.states r) (s'.states r) c later Down dooms
  pub guard : holds c.when (summary_of kinds (s.states r)).register ≡ true
  pub live : (s.states r).committed ≡ false
  pub counts : (s.states r).doomed ≡ false
  pub free : (s.states r).grip c.device.0 ≡ Free
  pub must : fails c Down ≡ true → dooms ≡ true
  pub may : MayAnswerDown kinds s c.device.0 place.front
      (device_summary kinds (s.states r) c.device.0).view
  pub still : (d : DeviceId) → IsStill s s' d

-- a command is skipped: its guard does not hold of the run's register
pub record SkipIsAnswered (kinds : List Kind) (s s' : WindowModel) (r : RunId) (c : Command)
    (later : List Command) : Type 0 where
  pub place : ChangesInPlace s s' r
  pub answer : GetsAnswer (s.states r) (s'.states r) c later Skipped false
  pub guard : holds c.when (summary_of kinds (s.states r)).register ≡ false
  pub live : (s.states r).committed ≡ false
  pub counts : (s.states r).doomed ≡ false
  pub free : (s.states r).grip c.device.0 ≡ Free
  pub still : (d : DeviceId) → IsStill s s' d

-- a live run is doomed
pub record RunIsDoomed (s s' : WindowModel) (r : RunId) : Type 0 where
  pub place : ChangesInPlace s s' r
  pub keeps : KeepsGrips (s.states r) (s'.states r)
  pub live : (s.states r).committed ≡ false
  pub committed : (s'.states r).committed ≡ false
  pub doomed : (s'.states r).doomed ≡ true
  pub still : (d : DeviceId) → IsStill s s' d

-- a live run that is not doomed and has all its answers commits
pub record RunCommits (s s' : WindowModel) (r : RunId) : Type 0 where
  pub place : ChangesInPlace s s' r
  pub keeps : KeepsGrips (s.states r) (s'.states r)
  pub live : (s.states r).committed ≡ false
  pub counts : (s.states r).doomed ≡ false
  pub done : rest (s.states r) ≡ []
  pub committed : (s'.states r).committed ≡ true
  pub doomed : (s'.states r).doomed ≡ false
  pub still : (d : DeviceId) → IsStill s s' d

-- a doomed run is aborted and leaves the line: of no device of it does it hold the grip, or has it
-- the effective write
pub record RunLeaves (kinds : List Kind) (s s' : WindowModel) (r : RunId) : Type 0 where
  pub front : List Item
  pub back : List Item
  pub at : s.line ≡ front ++ Ran (run_no r) ∷ back
  pub line : s'.line ≡ front ++ back
  pub states : (q : RunId) → s'.states q ≡ s.states q
  pub runs : s'.runs ≡ s.runs
  pub first : s'.first ≡ s.first
  pub live : (s.states r).committed ≡ false
  pub doomed : (s.states r).doomed ≡ true
  pub free : (d : DeviceId) → uses_device d (s.states r).commands ≡ true
      → (s.states r).grip d ≡ Free
  pub undone : (d : DeviceId) → uses_device d (s.states r).commands ≡ true
      → last_in_effect kinds s.states d None s.line ≢ Some r
  pub still : (d : DeviceId) → IsStill s s' d

-- the undo of a doomed run can be done on the device: the device is home, and the run has the
-- effective write
pub record MayUndo (kinds : List Kind) (s : WindowModel) (r : RunId) (d : DeviceId) : Type 0 where
  pub live : (s.states r).committed ≡ false
  pub doomed : (s.states r).doomed ≡ true
  pub effective : last_in_effect kinds s.states d None s.line ≡ Some r
  pub home : IsHomeAt kinds s d

-- the grip goes out for an undo: it drives the value at which the device would stand without the
-- run
pub record UndoGoesOut (kinds : List Kind) (s s' : WindowModel) (r : RunId)
    (d : DeviceId) : Type 0 where
  pub place : ChangesInPlace s s' r
  pub keeps : KeepsElsewhere (s.states r) (s'.states r) d
  pub may : MayUndo kinds s r d
  pub up : s.up d ≡ true
  pub undid : (s'.states r).undid d ≡ (s.states r).undid d
  pub out : (s'.states r).grip d ≡ Undoes
      (standing_value_on kinds s.states d (stand_at s.first d).value (place.front ++ place.back))
  pub still : (e : DeviceId) → IsStill s s' e

-- an undo on a device that is counted down is dropped
pub record UndoIsDropped (kinds : List Kind) (s s' : WindowModel) (r : RunId)
    (d : DeviceId) : Type 0 where
  pub place : ChangesInPlace s s' r
  pub keeps : KeepsElsewhere (s.states r) (s'.states r) d
  pub may : MayUndo kinds s r d
  pub down : s.up d ≡ false
  pub undid : (s'.states r).undid d ≡ true
  pub grip : (s'.states r).grip d ≡ (s.states r).grip d
  pub still : (e : DeviceId) → IsStill s s' e

-- an undo that was out is answered: the device stands at its value
pub record UndoIsAnswered (s s' : WindowModel) (r : RunId) (d : DeviceId) (v : ℕ) : Type 0 where
  pub place : ChangesInPlace s s' r
  pub keeps : KeepsElsewhere (s.states r) (s'.states r) d
  pub used : uses_device d (s.states r).commands ≡ true
  pub out : (s.states r).grip d ≡ Undoes v
  pub undid : (s'.states r).undid d ≡ true
  pub free : (s'.states r).grip d ≡ Free
  pub up : s'.up d ≡ s.up d
  pub held : s'.held d ≡ v
  pub probe : s'.probe d ≡ s.probe d
  pub still : (e : DeviceId) → e ≢ d → IsStill s s' e

-- the device fails at an undo
pub record UndoDies (kinds : List Kind) (s s' : WindowModel) (r : RunId) (d : DeviceId)
    (k v : ℕ) : Type 0 where
  pub place : ChangesInPlace (with_event_in kinds s d (Failed (device_no d) k)) s' r
  pub keeps : KeepsElsewhere (s.states r) (s'.states r) d
  pub homed : d < length s.first
  pub used : uses_device d (s.states r).commands ≡ true
  pub out : (s.states r).grip d ≡ Undoes v
  pub undid : (s'.states r).undid d ≡ true
  pub free : (s'.states r).grip d ≡ Free
  pub up : s'.up d ≡ false
  pub probe : s'.probe d ≡ s.probe d
  pub still : (e : DeviceId) → e ≢ d → IsStill s s' e

-- no run changes, and no other device
pub record KeepsRuns (s s' : WindowModel) (d : DeviceId) : Type 0 where
  pub states : (q : RunId) → s'.states q ≡ s.states q
  pub runs : s'.runs ≡ s.runs
  pub first : s'.first ≡ s.first
  pub still : (e : DeviceId) → e ≢ d → IsStill s s' e

-- a probe of a device that is home goes out: it asks where the device is counted up, and else
-- restores the value at which it is to stand
pub record ProbeGoesOut (kinds : List Kind) (s s' : WindowModel) (d : DeviceId) : Type 0 where
  pub keeps : KeepsRuns s s' d
  pub line : s'.line ≡ s.line
  pub home : IsHomeAt kinds s d
  pub up : s'.up d ≡ s.up d
  pub held : s'.held d ≡ s.held d
  pub probe : s'.probe d
      ≡ probe_for (s.up d) (standing_value_on kinds s.states d (stand_at s.first d).value s.line)

-- a probe finds the device up, as it is counted
pub record ProbeFindsUp (s s' : WindowModel) (d : DeviceId) : Type 0 where
  pub keeps : KeepsRuns s s' d
  pub line : s'.line ≡ s.line
  pub out : s.probe d ≡ Asks
  pub up : s'.up d ≡ s.up d
  pub held : s'.held d ≡ s.held d
  pub probe : s'.probe d ≡ Unprobed

-- a probe finds the device down, as it is counted
pub record ProbeFindsDown (s s' : WindowModel) (d : DeviceId) (v : ℕ) : Type 0 where
  pub keeps : KeepsRuns s s' d
  pub line : s'.line ≡ s.line
  pub out : s.probe d ≡ Restores v
  pub up : s'.up d ≡ s.up d
  pub probe : s'.probe d ≡ Unprobed

-- a probe finds that the device has failed, and no run that counts sees it up and has a command
-- left on it
pub record ProbeDies (kinds : List Kind) (s s' : WindowModel) (d : DeviceId) (k : ℕ) : Type 0 where
  pub keeps : KeepsRuns s s' d
  pub homed : d < length s.first
  pub line : s'.line ≡ line_with_event kinds s.states d (Failed (device_no d) k) s.line
  pub out : s.probe d ≡ Asks
  pub none : any_run (at_device kinds s.states d spans_up) s.line ≡ false
  pub up : s'.up d ≡ false
  pub probe : s'.probe d ≡ Unprobed

-- .. or one does, and is doomed
pub record ProbeDiesUnderRun (kinds : List Kind) (s s' : WindowModel) (r : RunId) (d : DeviceId)
    (k : ℕ) : Type 0 where
  pub place : ChangesInPlace (with_event_in kinds s d (Failed (device_no d) k)) s' r
  pub keeps : KeepsGrips (s.states r) (s'.states r)
  pub homed : d < length s.first
  pub spans : at_device kinds s.states d spans_up r ≡ true
  pub out : s.probe d ≡ Asks
  pub committed : (s'.states r).committed ≡ false
  pub doomed : (s'.states r).doomed ≡ true
  pub up : s'.up d ≡ false
  pub probe : s'.probe d ≡ Unprobed
  pub still : (e : DeviceId) → e ≢ d → IsStill s s' e

-- a probe brings the device back, and it stands at the value
pub record DeviceRestarts (kinds : List Kind) (s s' : WindowModel) (d : DeviceId)
    (k v : ℕ) : Type 0 where
  pub keeps : KeepsRuns s s' d
  pub homed : d < length s.first
  pub line : s'.line ≡ line_with_event kinds s.states d (Back (device_no d) k) s.line
  pub out : s.probe d ≡ Restores v
  pub up : s'.up d ≡ true
  pub held : s'.held d ≡ v
  pub probe : s'.probe d ≡ Unprobed

-- a window at its start: its line is empty, no run has done anything, each device stands as the
-- home does, and no probe is out
pub record WindowStarts (s : WindowModel) : Type 0 where
  pub line : s.line ≡ []
  pub new : (r : RunId) → HasDoneNothing (s.states r)
  pub commands : (r : RunId) → (s.states r).commands ≡ commands_of s.runs r
  pub homed : (r : RunId) → AreHomed (length s.first) (commands_of s.runs r)
  pub up : (d : DeviceId) → s.up d ≡ (stand_at s.first d).up
  pub held : (d : DeviceId) → s.held d ≡ (stand_at s.first d).value
  pub probe : (d : DeviceId) → s.probe d ≡ Unprobed
