-- The steps of two windows that are the same for all who call them.
use Rattle.device_gate.specs.Calls.{is_counted_up}
use Rattle.home_states.proofs.Prelude.{Absent, Answers, Bool, Choice, Configuration, DeviceGoesOut, Go, Gripped, HandedDevice, HandsOut, Home, IsSlipOf, IsTrue, IsTurn, List, Moved, Moves, None, OpenHub, Option, Out, OutAs, Over, Place, Purpose, Ready, SameWindowOf, Slip, SlipFits, Some, StoodInOrder, Task, TookInOrder, Turn, Wait, Waits, after_choice, after_take, ap, ap₂, arith, at_moment, choice_of, configuration_of, decide, eq-eqb, eqb-true, false, hub_state_of, if◌then◌else◌, inl, inr, length, max, out_as, out_in, point_of, refl, slice_get, slice_get_within, slice_set, subst, sym, taken_of, task_of, took_after, took_choice, true, ℕ, ◌+◌, ◌<◌, ◌==◌, ◌∙◌, ◌≡◌, ◌≤◌}
use Rattle.home_types.specs.Numbers.{Moment, RunId}
use Rattle.hub_core.specs.Steps.{Absent as IsAbsent, Over as IsOver}
use Rattle.lock_leasing.specs.Words.{standing_value}
use Rattle.window_devices.proofs.Cited.{get_set}

-- Of a step that hands out a device, what goes out is a function of the configuration, of how many
-- calls there were, and of what the step does

abbrev pub stood_as : Configuration → ℕ → Task → Option ℕ
stood_as c d task = if is_counted_up task then Some (standing_value (point_of c) d) else None

abbrev out_by : Configuration → RunId → ℕ → Choice → Option OutAs
out_by c r tickets IsAbsent = None
out_by c r tickets (IsOver e entries) = None
out_by c r tickets (Moves entries) = None
out_by c r tickets (Waits why) = None
out_by c r tickets (HandsOut d purpose) = Some (record {
  ticket = tickets + 1;
  device = d;
  maker = r;
  task = task_of c r purpose;
  stood = stood_as c d (task_of c r purpose);
})

abbrev tickets_by : ℕ → Option OutAs → ℕ
tickets_by tickets None = tickets
tickets_by tickets (Some out) = out.ticket

abbrev pub outs_by : (ℕ → Option OutAs) → Option OutAs → ℕ → Option OutAs
outs_by outs None d = outs d
outs_by outs (Some out) d = if d == out.device then Some out else outs d

-- with what each device of the hub is out
abbrev pub outs_of : OpenHub HandedDevice → ℕ → Option OutAs
outs_of hub d = out_in (slice_get hub.places d)

pub set_out : (places : List (Place HandedDevice)) (d e : ℕ) (place : Place HandedDevice) → d < length places
    → out_in (slice_get (slice_set places d place) e) ≡ (if e == d then out_in (Some place) else out_in (slice_get places e))
set_out places d e place low = elim (get_set places d e place low) [
  | inl here ↦ ap out_in here.1 ∙ ap (λ b. if b then out_in (Some place) else out_in (slice_get places e)) (sym (eq-eqb e d here.0))
  | inr there ↦ ap out_in there.1 ∙ by_test (e == d) (λ is. there.0 (eqb-true e d is))
]
  where
    by_test : (b : Bool) → (b ≡ true → ⊥) → out_in (slice_get places e) ≡ (if b then out_in (Some place) else out_in (slice_get places e))
    by_test true apart = absurd (apart refl)
    by_test false apart = refl

record IsMade (hub next : OpenHub HandedDevice) (r m : ℕ) : Type 0 where
  configuration : configuration_of next ≡ after_take (configuration_of hub) r m
  tickets : next.tickets ≡ tickets_by hub.tickets (out_by (configuration_of hub) r hub.tickets (choice_of (configuration_of hub) r m))
  outs : (d : ℕ) → outs_of next d ≡ outs_by (outs_of hub) (out_by (configuration_of hub) r hub.tickets (choice_of (configuration_of hub) r m)) d

abbrev no_slip : Slip
no_slip = record { ticket = 0; device = record { 0 = 0 }; maker = 0; stood = 0; turns = 0; drives = 0; probes = 0; faults = 0 }

answers_made : (hub next : OpenHub HandedDevice) (r m : ℕ) (choice : Choice) → ((tickets : ℕ) → out_by (configuration_of hub) r tickets choice ≡ None)
    → Answers hub r m choice next → IsMade hub next r m
answers_made hub next r m choice none answers =
    let is : choice ≡ choice_of (configuration_of hub) r m = took_choice (hub_state_of hub) (hub_state_of next) r m no_slip choice (answers.step no_slip) in
    let out : out_by (configuration_of hub) r hub.tickets (choice_of (configuration_of hub) r m) ≡ None =
    ap (λ x. out_by (configuration_of hub) r hub.tickets x) (sym is) ∙ none hub.tickets in
    record {
      configuration = took_after (hub_state_of hub) (hub_state_of next) r m no_slip choice (answers.step no_slip);
      tickets = answers.tickets ∙ ap (λ o. tickets_by hub.tickets o) (sym out);
      outs = λ d. ap (λ l. out_in (slice_get l d)) answers.places ∙ ap (λ o. outs_by (outs_of hub) o d) (sym out);
    }

fits : (r : ℕ) (choice : Choice) (d : ℕ) (purpose : Purpose) (slip : Slip) → HandsOut d purpose ≡ choice → SlipFits r choice slip → IsSlipOf r d slip
fits r choice d purpose slip is of = subst (λ x. SlipFits r x slip) (sym is) of

goes_made : (hub next : OpenHub HandedDevice) (r m : ℕ) (grip : Gripped HandedDevice Ready) → DeviceGoesOut hub r m grip next
    → StoodInOrder hub grip.slip grip.task → IsMade hub next r m
goes_made hub next r m grip goes stood =
    let d : ℕ = grip.slip.device.0 in
    let is : HandsOut d goes.purpose ≡ choice_of (configuration_of hub) r m =
    took_choice (hub_state_of hub) (hub_state_of next) r m grip.slip (HandsOut d goes.purpose) goes.step in
    let of : IsSlipOf r d grip.slip = fits r (choice_of (configuration_of hub) r m) d goes.purpose grip.slip is goes.step.2 in
    let stands : (if is_counted_up grip.task then Some grip.slip.stood else None) ≡ stood_as (configuration_of hub) d grip.task = by_test (is_counted_up grip.task) stood in
    let same : out_as (grip.slip, grip.task) ≡ record { ticket = hub.tickets + 1; device = d; maker = r; task = task_of (configuration_of hub) r goes.purpose; stood = stood_as (configuration_of hub) d (task_of (configuration_of hub) r goes.purpose) } =
    λ i. record {
      ticket = goes.next.ticket i;
      device = d;
      maker = of.maker i;
      task = goes.task i;
      stood = (stands ∙ ap (λ t. stood_as (configuration_of hub) d t) goes.task) i;
    } in
    let out : Some (out_as (grip.slip, grip.task)) ≡ out_by (configuration_of hub) r hub.tickets (choice_of (configuration_of hub) r m) =
    ap (λ o. Some o) same ∙ ap (λ x. out_by (configuration_of hub) r hub.tickets x) is in
    record {
      configuration = took_after (hub_state_of hub) (hub_state_of next) r m grip.slip (HandsOut d goes.purpose) goes.step;
      tickets = goes.next.tickets ∙ sym goes.next.ticket ∙ ap (λ o. tickets_by hub.tickets o) out;
      outs = λ e.
          ap (λ l. out_in (slice_get l e)) goes.places
          ∙ set_out hub.places d e (Out grip.slip grip.task) (slice_get_within hub.places d (Home grip.device) goes.home)
          ∙ ap (λ o. outs_by (outs_of hub) o e) out;
    }
  where
    by_test : (b : Bool) → (IsTrue b → grip.slip.stood ≡ standing_value (point_of (configuration_of hub)) grip.slip.device.0)
        → (if b then Some grip.slip.stood else None) ≡ (if b then Some (standing_value (point_of (configuration_of hub)) grip.slip.device.0) else None)
    by_test true stands = ap (λ x. Some x) (stands refl)
    by_test false stands = refl

turn_made : (hub next : OpenHub HandedDevice) (r m : ℕ) (turn : Turn HandedDevice) → IsTurn hub r m turn next
    → TookInOrder hub (taken_of turn) → IsMade hub next r m
turn_made hub next r m (Go grip) step stood = goes_made hub next r m grip step stood
turn_made hub next r m (Moved made) step stood = answers_made hub next r m (Moves made) (λ t. refl) step
turn_made hub next r m (Wait why) step stood = answers_made hub next r m (Waits why) (λ t. refl) step.0
turn_made hub next r m (Over end made) step stood = answers_made hub next r m (IsOver end made) (λ t. refl) step
turn_made hub next r m Absent step stood = answers_made hub next r m IsAbsent (λ t. refl) step.0

pub outs_same : (f g : ℕ → Option OutAs) (out : Option OutAs) → ((d : ℕ) → f d ≡ g d) → (d : ℕ) → outs_by f out d ≡ outs_by g out d
outs_same f g None same d = same d
outs_same f g (Some out) same d = ap (λ x. if d == out.device then Some out else x) (same d)

-- what a step comes to at a moment, of a configuration whose moment is an earlier one: that of the
-- step counts

pub later_same : (a b n : ℕ) → b ≤ n → max a n ≡ max (max a b) n
later_same a b n upto = omega (arith, upto)

abbrev taken_at : Configuration → RunId → Moment → Configuration
taken_at c r x = after_choice (record c { moment = x }) r (decide (point_of c) r x)

later_take : (c : Configuration) (r n from : ℕ) → from ≤ n → after_take c r n ≡ after_take (at_moment c from) r n
later_take c r n from upto = ap (λ x. taken_at c r x) (later_same c.moment from n upto)

later_out : (c : Configuration) (r tickets n from : ℕ) → from ≤ n
    → out_by c r tickets (choice_of c r n) ≡ out_by (at_moment c from) r tickets (choice_of (at_moment c from) r n)
later_out c r tickets n from upto = ap (λ x. out_by c r tickets (decide (point_of c) r x)) (later_same c.moment from n upto)

-- the steps of the run at the same moment, in windows that are the same
pub same_turn : (from : ℕ) (hub other next after : OpenHub HandedDevice) (r m : ℕ) (turn twin : Turn HandedDevice) → SameWindowOf from hub other → from ≤ m
    → IsTurn hub r m turn next → TookInOrder hub (taken_of turn)
    → IsTurn other r m twin after → TookInOrder other (taken_of twin)
    → next.opened ≡ hub.opened → after.opened ≡ other.opened → SameWindowOf from next after
same_turn from hub other next after r m turn twin same upto step stood step' stood' opened opened' =
    let one = turn_made hub next r m turn step stood in
    let two = turn_made other after r m twin step' stood' in
    let out : out_by (configuration_of hub) r hub.tickets (choice_of (configuration_of hub) r m) ≡ out_by (configuration_of other) r other.tickets (choice_of (configuration_of other) r m) =
    later_out (configuration_of hub) r hub.tickets m from upto
    ∙ ap₂ (λ (c : Configuration) (n : ℕ). out_by c r n (choice_of c r m)) same.configuration same.tickets
    ∙ sym (later_out (configuration_of other) r other.tickets m from upto) in
    let after_both : configuration_of next ≡ configuration_of after =
    one.configuration ∙ later_take (configuration_of hub) r m from upto ∙ ap (λ c. after_take c r m) same.configuration
    ∙ sym (later_take (configuration_of other) r m from upto) ∙ sym two.configuration in
    record {
      configuration = ap (λ c. at_moment c from) after_both;
      opened = opened ∙ same.opened ∙ sym opened';
      tickets = one.tickets ∙ ap₂ (λ (n : ℕ) (o : Option OutAs). tickets_by n o) same.tickets out ∙ sym two.tickets;
      out = λ d.
          one.outs d
          ∙ outs_same (outs_of hub) (outs_of other) (out_by (configuration_of hub) r hub.tickets (choice_of (configuration_of hub) r m)) same.out d
          ∙ ap (λ o. outs_by (outs_of other) o d) out
          ∙ sym (two.outs d);
    }
