-- What a hub shows when a device goes out or comes home.
use Rattle.hub_core.proofs.Prelude.{Carried, Home, IsKept, List, None, OpenHub, Option, Out, Place, Slip, Some, Task, ap, arith, carried_in, common_steps, eqb-true, false, hub_state_of, is_kept, length, option_map, place_here, place_there, put, put_at, refl, same_carried, same_optional, same_slip, same_task, slice_get, slice_set, slip_of, sym, true, unwrap_or, ℕ, ◌<◌, ◌∙◌, ◌≡◌}
use Rattle.device_gate.specs.declared.slips.Task.TheVariants.{Drive, Probe, Sense}
use Rattle.hub_core.proofs.steps.HubAnswers.{same_self}

-- what the grips carry when a place was set
pub carried_set : {D : Type 0} (places : List (Place D)) (d : ℕ) (x : Place D) → d < length places
    → ◌≡◌ {A = ℕ → Option Carried} (λ e. carried_in (slice_get (slice_set places d x) e)) (put (λ e. carried_in (slice_get places e)) d (carried_in (Some x)))
carried_set places d x within = put_at _ _ d _
    (ap (λ p. carried_in p) (place_here places d x within))
    (λ e other. ap (λ p. carried_in p) (place_there places d e x within other))

-- A grip is the one with which its device is out where slip and task are the same

optional_is : (a b : Option ℕ) → same_optional a b ≡ true → a ≡ b
optional_is None None e = refl
optional_is (Some a) (Some b) e = ap (λ x. Some x) (eqb-true a b e)
optional_is None (Some b) e = absurd (cc)
optional_is (Some a) None e = absurd (cc)

task_is : (a b : Task) → same_task a b ≡ true → a ≡ b
task_is (Drive v) (Drive u) e = ap (λ x. Drive x) (eqb-true v u e)
task_is Sense Sense e = refl
task_is (Probe v) (Probe u) e = ap (λ x. Probe x) (optional_is v u e)
task_is (Drive v) Sense e = absurd (cc)
task_is (Drive v) (Probe u) e = absurd (cc)
task_is Sense (Drive u) e = absurd (cc)
task_is Sense (Probe u) e = absurd (cc)
task_is (Probe v) (Drive u) e = absurd (cc)
task_is (Probe v) Sense e = absurd (cc)

slip_is : (a b : Slip) → same_slip a b ≡ true → a ≡ b
slip_is a b e =
    let P : ℕ × ℕ × ℕ × ℕ × ℕ × ℕ × ℕ × ℕ → Slip = λ x. record { ticket = x.0; device = record { 0 = x.1 }; maker = x.2; stood = x.3; turns = x.4; drives = x.5; probes = x.6; faults = x.7 } in
    λ i. P (ticket i, device i, maker i, stood i, turns i, drives i, probes i, faults i)
  where
    ticket : a.ticket ≡ b.ticket
    ticket = grind (arith, common_steps)

    device : a.device.0 ≡ b.device.0
    device = grind (arith, common_steps)

    maker : a.maker ≡ b.maker
    maker = grind (arith, common_steps)

    stood : a.stood ≡ b.stood
    stood = grind (arith, common_steps)

    turns : a.turns ≡ b.turns
    turns = grind (arith, common_steps)

    drives : a.drives ≡ b.drives
    drives = grind (arith, common_steps)

    probes : a.probes ≡ b.probes
    probes = grind (arith, common_steps)

    faults : a.faults ≡ b.faults
    faults = grind (arith, common_steps)

-- the gate's test is the hub's
pub kept_is : {D : Type 0} (s : OpenHub D) (slip : Slip) (task : Task) → IsKept s.places slip task → is_kept (hub_state_of s) (record { slip = slip; task = task }) ≡ true
kept_is s slip task kept = rw kept (same_self (record { slip = slip; task = task }))

pub is_kept_there : {D : Type 0} (s : OpenHub D) (slip : Slip) (task : Task) → is_kept (hub_state_of s) (record { slip = slip; task = task }) ≡ true → IsKept s.places slip task
is_kept_there {D = D} s slip task kept = by_place (slice_get s.places slip.device.0) refl kept
  where
    by_place : (o : Option (Place D)) → slice_get s.places slip.device.0 ≡ o → unwrap_or (option_map (same_carried (record { slip = slip; task = task })) (carried_in o)) false ≡ true → IsKept s.places slip task
    by_place None at is = absurd (cc)
    by_place (Some (Home device)) at is = absurd (cc)
    by_place (Some (Out kept_slip kept_task)) at is =
        let slips : same_slip slip kept_slip ≡ true = grind (arith, common_steps) in
        let tasks : same_task task kept_task ≡ true = grind (arith, common_steps) in
        at ∙ λ i. Some (Out (sym (slip_is slip kept_slip slips) i) (sym (task_is task kept_task tasks) i))

pub slip_carried : {D : Type 0} (o : Option (Place D)) → option_map (λ (c : Carried). c.slip) (carried_in o) ≡ slip_of o
slip_carried None = refl
slip_carried (Some (Home device)) = refl
slip_carried (Some (Out slip task)) = refl
