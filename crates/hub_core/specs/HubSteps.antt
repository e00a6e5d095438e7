-- The calls of a hub: the steps of its configuration, and the slips of the grips that are out.
use Rattle.command_rules.specs.Rosters.{command_at}
use Rattle.history_book.specs.Readings.{put}
use Rattle.history_book.specs.declared.entries.Entry.{Entry}
use Rattle.home_types.specs.Commands.{driven, reads}
use Rattle.home_types.specs.Kinds.{kind_at}
use Rattle.home_types.specs.Numbers.{ActorId, DeviceId, Moment, RunId}
use Rattle.home_types.specs.declared.commands.Command.{Command}
use Rattle.hub_core.specs.Steps.{Absent, Choice, HandsOut, Moves, Over, Waits, after_give, after_take, after_take_probe, at_moment, choice_of, give_entries, may_probe, probe_grip}
use Rattle.device_gate.specs.declared.slips.Slip.{Slip}
use Rattle.device_gate.specs.declared.slips.Task.{Task}
use Rattle.device_gate.specs.declared.slips.Task.TheVariants.{Drive, Probe, Sense}
use Rattle.device_gate.specs.declared.slips.Told.{Told}
use Rattle.device_gate.specs.declared.strangers.Stranger.{Stranger}
use Rattle.lock_leasing.specs.Configurations.{Configuration, Grip, read_of}
use Rattle.lock_leasing.specs.declared.purposes.Purpose.TheVariants.{Commands, Probes, Undoes}
use Rattle.lock_leasing.specs.declared.purposes.Purpose.{Purpose}
use Rattle.std.specs.Prelude.{Bool, IsTrue, List, None, Option, Some, [], false, if◌then◌else◌, nat_lt, option_map, true, unwrap_or, ℕ, ⊤, ◌&&◌, ◌==◌, ◌≡◌}

-- what a grip carries: its slip, and what it does with its device
pub record Carried : Type 0 where
  pub slip : Slip
  pub task : Task

-- what a hub shows: its configuration, and what the grip of each device that is out carries
pub record HubState : Type 0 where
  pub configuration : Configuration
  pub carried : DeviceId → Option Carried

-- what a command of the run does with its device
abbrev pub command_task : Configuration → RunId → Command → Task
command_task s r c =
    if reads c.job then Sense
    else Drive (driven (kind_at s.setting.kinds c.device.0) c.job ((read_of s).run r).register)

abbrev pub task_of : Configuration → ActorId → Purpose → Task
task_of s r (Commands k) = command_task s r (command_at s.setting.runs r k)
task_of s r (Undoes v) = Drive v
task_of s r (Probes value) = Probe value

abbrev pub same_optional : Option ℕ → Option ℕ → Bool
same_optional None None = true
same_optional (Some a) (Some b) = a == b
same_optional a b = false

abbrev pub same_task : Task → Task → Bool
same_task (Drive v) (Drive u) = v == u
same_task Sense Sense = true
same_task (Probe v) (Probe u) = same_optional v u
same_task a b = false

abbrev pub same_slip : Slip → Slip → Bool
same_slip a b =
    (a.ticket == b.ticket) && (a.device.0 == b.device.0) && (a.maker == b.maker)
    && (a.stood == b.stood) && (a.turns == b.turns) && (a.drives == b.drives)
    && (a.probes == b.probes) && (a.faults == b.faults)

abbrev pub same_carried : Carried → Carried → Bool
same_carried a b = same_slip a.slip b.slip && same_task a.task b.task

-- the grip is the one with which its device is out
abbrev pub is_kept : HubState → Carried → Bool
is_kept s told = unwrap_or (option_map (same_carried told) (s.carried told.slip.device.0)) false

abbrev pub stranger : HubState → Carried → Stranger
stranger s told =
    record { kept = option_map (λ c. c.slip) (s.carried told.slip.device.0); told = told.slip }

-- what a call answers, and the hub after it

pub record RunTaken : Type 0 where
  pub choice : Choice
  pub next : HubState

pub data GiveAnswer : Type 0 where
  -- the grip is taken back, with these entries
  Gave : List Entry → GiveAnswer
  -- it is not the one that is out
  Refused : Stranger → GiveAnswer

pub record RunGiven : Type 0 where
  pub answer : GiveAnswer
  pub next : HubState

pub record ProbeTaken : Type 0 where
  pub task : Option Task
  pub next : HubState

-- the device leaves with this slip
abbrev pub carrying : HubState → ActorId → DeviceId → Purpose → Slip → DeviceId → Option Carried
carrying s r d purpose slip =
    put s.carried d (Some (record { slip = slip; task = task_of s.configuration r purpose }))

abbrev pub carried_after : HubState → RunId → Choice → Slip → DeviceId → Option Carried
carried_after s r Absent slip = s.carried
carried_after s r (Over e entries) slip = s.carried
carried_after s r (Moves entries) slip = s.carried
carried_after s r (Waits why) slip = s.carried
carried_after s r (HandsOut d purpose) slip = carrying s r d purpose slip

-- the step of a run; a device that goes out leaves with the slip that is written for it
abbrev pub take : HubState → RunId → Moment → Slip → RunTaken
take s r m slip =
    record {
      choice = choice_of s.configuration r m;
      next = record {
        configuration = after_take s.configuration r m;
        carried = carried_after s r (choice_of s.configuration r m) slip;
      };
    }

-- the grip's device is home again
abbrev pub taken_back : HubState → Configuration → Carried → Told → HubState
taken_back s c told result = record {
  configuration = came_home (c.grips told.slip.device.0);
  carried = put s.carried told.slip.device.0 None;
}
  where
    came_home : Option Grip → Configuration
    came_home None = c
    came_home (Some grip) = after_give c told.slip.device.0 grip result

-- the entries of the grip that is out of this device
abbrev pub entries_back : Configuration → Carried → Told → List Entry
entries_back c told result =
    unwrap_or
    (option_map (λ grip. give_entries c.setting (read_of c) told.slip.device.0 grip result)
    (c.grips told.slip.device.0)) []

-- a grip comes back; one that is not the one which is out is refused, and nothing changes
abbrev pub give_if : Bool → HubState → Configuration → Carried → Told → RunGiven
give_if true s c told result =
    record { answer = Gave (entries_back c told result); next = taken_back s c told result }
give_if false s c told result = record { answer = Refused (stranger s told); next = s }

-- the grip of a run
abbrev pub give : HubState → Carried → Told → Moment → RunGiven
give s told result m =
    give_if (is_kept s told && nat_lt 0 told.slip.maker) s (at_moment s.configuration m) told result

-- the grip of the detector
abbrev pub give_probe : HubState → Carried → Told → RunGiven
give_probe s told result =
    give_if (is_kept s told && (told.slip.maker == 0)) s s.configuration told result

-- a probe of the device goes out, where it may
abbrev pub take_probe : HubState → DeviceId → Slip → ProbeTaken
take_probe s d slip =
    if may_probe s.configuration d then record {
      task = Some (task_of s.configuration 0 (probe_grip s.configuration d).purpose);
      next = record {
        configuration = after_take_probe s.configuration d;
        carried = carrying s 0 d (probe_grip s.configuration d).purpose slip;
      };
    } else record { task = None; next = s }

-- a call of a hub, and its answer; the slip is that of the grip that the call hands out, if it does

pub data Call : Type 0 where
  Take : RunId → Moment → Slip → Call
  Give : Carried → Told → Moment → Call
  TakeProbe : DeviceId → Slip → Call
  GiveProbe : Carried → Told → Call

pub data CallAnswer : Type 0 where
  Chose : Choice → CallAnswer
  Returned : GiveAnswer → CallAnswer
  Probed : Option Task → CallAnswer

-- a slip names its device and its maker
pub record IsSlipOf (r : ActorId) (d : DeviceId) (slip : Slip) : Type 0 where
  pub device : slip.device.0 ≡ d
  pub maker : slip.maker ≡ r

-- the slip fits what goes out
abbrev pub SlipFits : RunId → Choice → Slip → Type 0
SlipFits r (HandsOut d purpose) slip = IsSlipOf r d slip
SlipFits r choice slip = ⊤

-- one step of a hub: what a call answers, and what the hub shows after it
abbrev pub HubStep : HubState → Call → CallAnswer → HubState → Type 0
HubStep s (Take r m slip) answer after =
    (answer ≡ Chose (take s r m slip).choice) × (after ≡ (take s r m slip).next)
    × SlipFits r (take s r m slip).choice slip
HubStep s (Give told result m) answer after =
    (answer ≡ Returned (give s told result m).answer) × (after ≡ (give s told result m).next)
HubStep s (TakeProbe d slip) answer after =
    (answer ≡ Probed (take_probe s d slip).task) × (after ≡ (take_probe s d slip).next)
    × (IsTrue (may_probe s.configuration d) → IsSlipOf 0 d slip)
HubStep s (GiveProbe told result) answer after =
    (answer ≡ Returned (give_probe s told result).answer)
    × (after ≡ (give_probe s told result).next)
