-- Devices that come back to two windows that are the same for all who call them, and probes of them.
use Rattle.device_gate.specs.Calls.{is_counted_up}
use Rattle.home_states.proofs.Prelude.{Bool, Carried, Configuration, Done, Entry, Gave, Grip, Gripped, HandedDevice, HasComeBack, Home, HubState, IsGiven, IsProbeGiven, IsProbed, IsTrue, List, None, Ok, OpenHub, Option, Out, OutAs, Place, ProbeTaken, Probed, Purpose, Ready, Returned, SameWindowOf, Slip, Some, StoodInOrder, Task, Told, after_give, after_take_probe, ap, ap₂, arith, at_moment, carried_by, carried_in, carrying, common_steps, configuration_of, eqb-true, false, gave_back, gave_probe_back, give_if, hub_state_of, if◌then◌else◌, inl, inr, is_kept, max, may_probe, nat_lt, option_map, out_as, out_in, point_of, probe_grip, refl, same_carried, slice_get, slice_get_within, subst, sym, task_of, took_probe, true, unwrap_or, ℕ, ◌&&◌, ◌+◌, ◌-◌, ◌==◌, ◌∙◌, ◌≡◌, ◌≤◌}
use Rattle.history_book.specs.Readings.{put}
use Rattle.home_states.proofs.SameSteps.{later_same, outs_by, outs_of, outs_same, set_out, stood_as}
use Rattle.lock_leasing.specs.Words.{standing_value}
use Rattle.window_devices.specs.KnownDevices.{grip_in, progress_at}

-- The configuration to which the device has come back: of the detector's grip the moment stays

abbrev back_with : Configuration → ℕ → Told → ℕ → Option Grip → Configuration
back_with c d told m None = c
back_with c d told m (Some grip) = after_give (if grip.maker == 0 then c else at_moment c m) d grip told

abbrev back_by : Configuration → ℕ → Told → ℕ → Configuration
back_by c d told m = back_with c d told m (c.grips d)

-- the device in this place is out for whom the grip that came back was
record IsOutFor (place : Option (Place HandedDevice)) (purpose : Purpose) (maker : ℕ) : Type 0 where
  slip : Slip
  task : Task
  is : place ≡ Some (Out slip task)
  own : slip.maker ≡ maker

out_for : (place : Option (Place HandedDevice)) (purpose : Purpose) (told : Carried) → unwrap_or (option_map (same_carried told) (carried_in place)) false ≡ true
    → IsOutFor place purpose told.slip.maker
out_for None purpose told kept = absurd (cc)
out_for (Some (Home device)) purpose told kept = absurd (cc)
out_for (Some (Out slip task)) purpose told kept = record {
  slip = slip;
  task = task;
  is = refl;
  own = let same : (told.slip.maker == slip.maker) ≡ true = grind (arith, common_steps, kept) in sym (eqb-true told.slip.maker slip.maker same);
}

gave_true : (b : Bool) (s : HubState) (c : Configuration) (told : Carried) (result : Told) (made : List Entry) → Returned (Gave made) ≡ Returned (give_if b s c told result).answer → b ≡ true
gave_true true s c told result made answer = refl
gave_true false s c told result made answer = absurd (cc)

both_true : (a b : Bool) → (a && b) ≡ true → (a ≡ true) × (b ≡ true)
both_true true b is = (refl, is)
both_true false b is = absurd (cc)

grip_there : (hub : OpenHub HandedDevice) (d maker : ℕ) (out : IsOutFor (slice_get hub.places d) (progress_at hub.devices d).purpose maker)
    → (configuration_of hub).grips d ≡ Some (record { maker = out.slip.maker; purpose = (progress_at hub.devices d).purpose })
grip_there hub d maker out = ap (λ (p : Option (Place HandedDevice)). grip_in p (progress_at hub.devices d).purpose) out.is

record IsBackFrom (hub next : OpenHub HandedDevice) (d : ℕ) (told : Told) (m : ℕ) : Type 0 where
  configuration : configuration_of next ≡ back_by (configuration_of hub) d told m
  tickets : next.tickets ≡ hub.tickets
  outs : (e : ℕ) → outs_of next e ≡ (if e == d then None else outs_of hub e)

given_back : (hub next : OpenHub HandedDevice) (done : Gripped HandedDevice Done) (m : ℕ) (made : List Entry) → IsGiven hub done m (Ok made) next
    → IsBackFrom hub next done.slip.device.0 done.stage.told m
given_back hub next done m made given =
    let d : ℕ = done.slip.device.0 in
    let both = both_true (is_kept (hub_state_of hub) (carried_by done)) (nat_lt 0 done.slip.maker)
    (gave_true (is_kept (hub_state_of hub) (carried_by done) && nat_lt 0 done.slip.maker) (hub_state_of hub) (at_moment (configuration_of hub) m) (carried_by done) done.stage.told made given.0.0) in
    let out = out_for (slice_get hub.places d) (progress_at hub.devices d).purpose (carried_by done) both.0 in
    let grip : Grip = record { maker = out.slip.maker; purpose = (progress_at hub.devices d).purpose } in
    let there : (configuration_of hub).grips d ≡ Some grip = grip_there hub d done.slip.maker out in
    let later : (out.slip.maker == 0) ≡ false = subst (λ n. (n == 0) ≡ false) (sym out.own) (let low = both.1 in grind (arith, common_steps, low)) in
    record {
      configuration =
          (gave_back (hub_state_of hub) (hub_state_of next) (carried_by done) done.stage.told m grip made there given.0).1
          ∙ ap (λ b. after_give (if b then configuration_of hub else at_moment (configuration_of hub) m) d grip done.stage.told) (sym later)
          ∙ ap (λ o. back_with (configuration_of hub) d done.stage.told m o) (sym there);
      tickets = given.2;
      outs = λ e. ap (λ l. out_in (slice_get l e)) given.1 ∙ set_out hub.places d e (Home done.device) (slice_get_within hub.places d (Out out.slip out.task) out.is);
    }

probe_back : (hub next : OpenHub HandedDevice) (done : Gripped HandedDevice Done) (m : ℕ) (made : List Entry) → IsProbeGiven hub done (Ok made) next
    → IsBackFrom hub next done.slip.device.0 done.stage.told m
probe_back hub next done m made given =
    let d : ℕ = done.slip.device.0 in
    let both = both_true (is_kept (hub_state_of hub) (carried_by done)) (done.slip.maker == 0)
    (gave_true (is_kept (hub_state_of hub) (carried_by done) && (done.slip.maker == 0)) (hub_state_of hub) (configuration_of hub) (carried_by done) done.stage.told made given.0.0) in
    let out = out_for (slice_get hub.places d) (progress_at hub.devices d).purpose (carried_by done) both.0 in
    let grip : Grip = record { maker = out.slip.maker; purpose = (progress_at hub.devices d).purpose } in
    let there : (configuration_of hub).grips d ≡ Some grip = grip_there hub d done.slip.maker out in
    let own : (out.slip.maker == 0) ≡ true = subst (λ n. (n == 0) ≡ true) (sym out.own) both.1 in
    record {
      configuration =
          (gave_probe_back (hub_state_of hub) (hub_state_of next) (carried_by done) done.stage.told grip made there given.0).1
          ∙ ap (λ b. after_give (if b then configuration_of hub else at_moment (configuration_of hub) m) d grip done.stage.told) (sym own)
          ∙ ap (λ o. back_with (configuration_of hub) d done.stage.told m o) (sym there);
      tickets = given.2;
      outs = λ e. ap (λ l. out_in (slice_get l e)) given.1 ∙ set_out hub.places d e (Home done.device) (slice_get_within hub.places d (Out out.slip out.task) out.is);
    }

come_back : (hub next : OpenHub HandedDevice) (d ticket : ℕ) (told : Told) (m : ℕ) (made : List Entry) → HasComeBack hub d ticket told m made next → IsBackFrom hub next d told m
come_back hub next d ticket told m made back =
    subst (λ x. IsBackFrom hub next x told m) back.device
    (subst (λ x. IsBackFrom hub next back.done.slip.device.0 x m) back.told_is
    (elim back.back [ inl given ↦ given_back hub next back.done m made given | inr given ↦ probe_back hub next back.done m made given ]))

-- what an answer comes to at a moment, of a configuration whose moment is an earlier one

twice : (a b : ℕ) → max a b ≡ max (max a b) b
twice a b = omega arith

later_back : (c : Configuration) (d : ℕ) (told : Told) (n from : ℕ) → from ≤ n
    → at_moment (back_by c d told n) from ≡ at_moment (back_by (at_moment c from) d told n) from
later_back c d told n from upto = by_grip (c.grips d)
  where
    by_maker : (grip : Grip) (b : Bool) → at_moment (after_give (if b then c else at_moment c n) d grip told) from
        ≡ at_moment (after_give (if b then at_moment c from else at_moment (at_moment c from) n) d grip told) from
    by_maker grip true = ap (λ (x : ℕ). record (after_give c d grip told) { moment = x }) (twice c.moment from)
    by_maker grip false = ap (λ (x : ℕ). record (after_give c d grip told) { moment = max x from }) (later_same c.moment from n upto)

    by_grip : (o : Option Grip) → at_moment (back_with c d told n o) from ≡ at_moment (back_with (at_moment c from) d told n o) from
    by_grip None = ap (λ (x : ℕ). record c { moment = x }) (twice c.moment from)
    by_grip (Some grip) = by_maker grip (grip.maker == 0)

-- the answers to the calls of one device, at the same moment, in windows that are the same
pub same_back : (from : ℕ) (hub other next after : OpenHub HandedDevice) (d n k : ℕ) (told : Told) (m : ℕ) (made more : List Entry) → SameWindowOf from hub other → from ≤ m
    → HasComeBack hub d n told m made next → HasComeBack other d k told m more after
    → next.opened ≡ hub.opened → after.opened ≡ other.opened → SameWindowOf from next after
same_back from hub other next after d n k told m made more same upto back back' opened opened' =
    let one = come_back hub next d n told m made back in
    let two = come_back other after d k told m more back' in
    record {
      configuration =
          ap (λ c. at_moment c from) one.configuration
          ∙ later_back (configuration_of hub) d told m from upto
          ∙ ap (λ c. at_moment (back_by c d told m) from) same.configuration
          ∙ sym (later_back (configuration_of other) d told m from upto)
          ∙ sym (ap (λ c. at_moment c from) two.configuration);
      opened = opened ∙ same.opened ∙ sym opened';
      tickets = one.tickets ∙ same.tickets ∙ sym two.tickets;
      out = λ e. one.outs e ∙ ap (λ x. if e == d then None else x) (same.out e) ∙ sym (two.outs e);
    }

-- A probe

abbrev probe_out : Configuration → ℕ → ℕ → OutAs
probe_out c tickets d = record {
  ticket = tickets + 1;
  device = d;
  maker = 0;
  task = task_of c 0 (probe_grip c d).purpose;
  stood = stood_as c d (task_of c 0 (probe_grip c d).purpose);
}

record IsSent (hub next : OpenHub HandedDevice) (d : ℕ) : Type 0 where
  configuration : configuration_of next ≡ after_take_probe (configuration_of hub) d
  tickets : next.tickets ≡ hub.tickets + 1
  outs : (e : ℕ) → outs_of next e ≡ outs_by (outs_of hub) (Some (probe_out (configuration_of hub) hub.tickets d)) e

abbrev taken_if : Bool → HubState → ℕ → Slip → ProbeTaken
taken_if b s d slip = if b then record {
  task = Some (task_of s.configuration 0 (probe_grip s.configuration d).purpose);
  next = record {
    configuration = after_take_probe s.configuration d;
    carried = carrying s 0 d (probe_grip s.configuration d).purpose slip;
  };
} else record { task = None; next = s }

task_sent : (b : Bool) (s : HubState) (d : ℕ) (slip : Slip) (task : Task) → Probed (Some task) ≡ Probed (taken_if b s d slip).task
    → task ≡ task_of s.configuration 0 (probe_grip s.configuration d).purpose
task_sent true s d slip task answer = cc
task_sent false s d slip task answer = absurd (cc)

probe_sent : (hub next : OpenHub HandedDevice) (d : ℕ) (grip : Gripped HandedDevice Ready) → IsProbed hub d (Some grip) next
    → StoodInOrder hub grip.slip grip.task → IsSent hub next d
probe_sent hub next d grip sent stood =
    let took = took_probe (hub_state_of hub) (hub_state_of next) d grip.slip grip.task sent.0 in
    let task : grip.task ≡ task_of (configuration_of hub) 0 (probe_grip (configuration_of hub) d).purpose =
    task_sent (may_probe (configuration_of hub) d) (hub_state_of hub) d grip.slip grip.task sent.0.0 in
    let stands : (if is_counted_up grip.task then Some grip.slip.stood else None) ≡ stood_as (configuration_of hub) d grip.task =
    subst (λ x. (if is_counted_up grip.task then Some grip.slip.stood else None) ≡ stood_as (configuration_of hub) x grip.task) took.2.device (by_test (is_counted_up grip.task) stood) in
    let same : out_as (grip.slip, grip.task) ≡ probe_out (configuration_of hub) hub.tickets d =
    λ i. record {
      ticket = sent.3.ticket i;
      device = took.2.device i;
      maker = took.2.maker i;
      task = task i;
      stood = (stands ∙ ap (λ t. stood_as (configuration_of hub) d t) task) i;
    } in
    record {
      configuration = took.1;
      tickets = sent.3.tickets;
      outs = λ e.
          ap (λ l. out_in (slice_get l e)) sent.2
          ∙ set_out hub.places d e (Out grip.slip grip.task) (slice_get_within hub.places d (Home grip.device) sent.1)
          ∙ ap (λ x. if e == d then Some x else outs_of hub e) same;
    }
  where
    by_test : (b : Bool) → (IsTrue b → grip.slip.stood ≡ standing_value (point_of (configuration_of hub)) grip.slip.device.0)
        → (if b then Some grip.slip.stood else None) ≡ (if b then Some (standing_value (point_of (configuration_of hub)) grip.slip.device.0) else None)
    by_test true stands = ap (λ x. Some x) (stands refl)
    by_test false stands = refl

later_probe : (c : Configuration) (d from : ℕ) → at_moment (after_take_probe c d) from ≡ after_take_probe (at_moment c from) d
later_probe c d from = by_test (may_probe c d)
  where
    by_test : (b : Bool) → at_moment (if b then record c { probes = put c.probes d (c.probes d - 1); grips = put c.grips d (Some (probe_grip c d)) } else c) from
        ≡ (if b then record (at_moment c from) { probes = put c.probes d (c.probes d - 1); grips = put c.grips d (Some (probe_grip c d)) } else at_moment c from)
    by_test true = refl
    by_test false = refl

-- the probes of one device in windows that are the same
pub same_probe : (from : ℕ) (hub other next after : OpenHub HandedDevice) (d : ℕ) (grip twin : Gripped HandedDevice Ready) → SameWindowOf from hub other
    → IsProbed hub d (Some grip) next → StoodInOrder hub grip.slip grip.task
    → IsProbed other d (Some twin) after → StoodInOrder other twin.slip twin.task
    → next.opened ≡ hub.opened → after.opened ≡ other.opened → SameWindowOf from next after
same_probe from hub other next after d grip twin same sent stood sent' stood' opened opened' =
    let one = probe_sent hub next d grip sent stood in
    let two = probe_sent other after d twin sent' stood' in
    let out : Some (probe_out (configuration_of hub) hub.tickets d) ≡ Some (probe_out (configuration_of other) other.tickets d) =
    ap₂ (λ (c : Configuration) (n : ℕ). Some (probe_out c n d)) same.configuration same.tickets in
    record {
      configuration =
          ap (λ c. at_moment c from) one.configuration
          ∙ later_probe (configuration_of hub) d from
          ∙ ap (λ c. after_take_probe c d) same.configuration
          ∙ sym (later_probe (configuration_of other) d from)
          ∙ sym (ap (λ c. at_moment c from) two.configuration);
      opened = opened ∙ same.opened ∙ sym opened';
      tickets = one.tickets ∙ ap (λ n. n + 1) same.tickets ∙ sym two.tickets;
      out = λ e.
          one.outs e
          ∙ outs_same (outs_of hub) (outs_of other) (Some (probe_out (configuration_of hub) hub.tickets d)) same.out e
          ∙ ap (λ o. outs_by (outs_of other) o e) out
          ∙ sym (two.outs e);
    }
