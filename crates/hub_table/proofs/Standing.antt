-- Where a device stood that goes out, and is counted up.
use Rattle.hub_table.proofs.Prelude.{Bool, Configuration, DeviceGoesOut, Gripped, HubStands, IsAsLeft, IsProbed, IsTrue, None, OpenHub, Ready, Slip, Some, StoodInOrder, Task, ap, configuration_of, decide_is, false, hub_state_of, if◌then◌else◌, is_counted_up, max, not, point_of, read_of, refl, subst, sym, took_choice, took_probe, true, ℕ, ⊤, ◌||◌, ◌∙◌, ◌≡◌}
use Rattle.device_gate.specs.declared.slips.Task.TheVariants.{Probe}
use Rattle.device_states.specs.Devices.{Shown}
use Rattle.hub_core.specs.HubSteps.{HubState, ProbeTaken, Probed, carrying, task_of}
use Rattle.hub_core.specs.Steps.{Absent, Choice, HandsOut, Moves, Over, Waits, after_take_probe, choice_of, may_probe, probe_grip}
use Rattle.lock_leasing.specs.Words.{standing_value}

-- a step hands out no device that is counted down
abbrev OutIsUp : (ℕ → Bool) → Choice → Type 0
OutIsUp up Absent = ⊤
OutIsUp up (Over e entries) = ⊤
OutIsUp up (Moves entries) = ⊤
OutIsUp up (Waits why) = ⊤
OutIsUp up (HandsOut d purpose) = up d ≡ true

not_down : (a b : Bool) → (a || not b) ≡ false → b ≡ true
not_down a true is = refl
not_down true false is = absurd (cc)
not_down false false is = absurd (cc)

out_is_up : (c : Configuration) (r m : ℕ) → OutIsUp (read_of c).up (choice_of c r m)
out_is_up c r m = decide_is (OutIsUp (read_of c).up) c.setting (read_of c) c.grips r (max c.moment m) (record {
  absent = λ none. tt;
  over = λ e at. tt;
  waits = λ why. tt;
  arrives = λ run none. tt;
  enters = λ s enters. tt;
  aborted = λ cause act doomed over. tt;
  drops = λ cause d undoing down. tt;
  undoes = λ cause d undoing up. up;
  revokes = λ x y run strong at. tt;
  downs = λ x run next home down. tt;
  goes = λ x run next home up. not_down _ ((read_of c).up x.device.0) up;
  skips = λ x skipping. tt;
  fails_at_end = λ d answered at. tt;
  commits = λ answered none. tt;
})

pub goes_in_order : {D : Type 0} (shows : D → Shown) (hub next : OpenHub D) (r m : ℕ) (grip : Gripped D Ready) → HubStands shows hub
    → DeviceGoesOut hub r m grip next → IsAsLeft grip.task grip.slip (shows grip.device) → StoodInOrder hub grip.slip grip.task
goes_in_order shows hub next r m grip stands goes left counted =
    let is = took_choice (hub_state_of hub) (hub_state_of next) r m grip.slip (HandsOut grip.slip.device.0 goes.purpose) goes.step in
    let up : (read_of (configuration_of hub)).up grip.slip.device.0 ≡ true =
    subst (λ x. OutIsUp (read_of (configuration_of hub)).up x) (sym is) (out_is_up (configuration_of hub) r m) in
    sym (left.stood counted) ∙ stands.stand grip.slip.device.0 grip.device goes.home up

-- Probes

abbrev taken_if : Bool → HubState → ℕ → Slip → ProbeTaken
taken_if b s d slip = if b then record {
  task = Some (task_of s.configuration 0 (probe_grip s.configuration d).purpose);
  next = record {
    configuration = after_take_probe s.configuration d;
    carried = carrying s 0 d (probe_grip s.configuration d).purpose slip;
  };
} else record { task = None; next = s }

task_if : (b : Bool) (s : HubState) (d : ℕ) (slip : Slip) (task : Task) → Probed (Some task) ≡ Probed (taken_if b s d slip).task
    → task ≡ task_of s.configuration 0 (probe_grip s.configuration d).purpose
task_if true s d slip task answer = cc
task_if false s d slip task answer = absurd (cc)

-- a probe that went out has this task
pub task_sent : {D : Type 0} (hub next : OpenHub D) (d : ℕ) (grip : Gripped D Ready) → IsProbed hub d (Some grip) next
    → grip.task ≡ task_of (configuration_of hub) 0 (probe_grip (configuration_of hub) d).purpose
task_sent hub next d grip sent = task_if (may_probe (configuration_of hub) d) (hub_state_of hub) d grip.slip grip.task sent.0.0

up_where : (b : Bool) (v : ℕ) → IsTrue (is_counted_up (Probe (if b then None else Some v))) → b ≡ true
up_where true v counted = refl
up_where false v counted = absurd (cc)

pub probes_in_order : {D : Type 0} (shows : D → Shown) (hub next : OpenHub D) (d : ℕ) (grip : Gripped D Ready) → HubStands shows hub
    → IsProbed hub d (Some grip) next → IsAsLeft grip.task grip.slip (shows grip.device) → StoodInOrder hub grip.slip grip.task
probes_in_order shows hub next d grip stands sent left counted =
    let own : grip.slip.device.0 ≡ d = (took_probe (hub_state_of hub) (hub_state_of next) d grip.slip grip.task sent.0).2.device in
    let up : (read_of (configuration_of hub)).up d ≡ true =
    up_where ((read_of (configuration_of hub)).up d) (standing_value (point_of (configuration_of hub)) d)
    (subst (λ t. IsTrue (is_counted_up t)) (task_sent hub next d grip sent) counted) in
    sym (left.stood counted)
    ∙ stands.stand d grip.device sent.1 up
    ∙ ap (λ e. standing_value (point_of (configuration_of hub)) e) (sym own)
