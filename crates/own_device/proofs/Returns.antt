-- A hub takes back the grip that it has handed out.
use Rattle.device_gate.specs.Grips.{Gripped}
use Rattle.device_gate.specs.Places.{IsKept}
use Rattle.device_gate.specs.declared.gates.Place.TheVariants.{Home, Out}
use Rattle.device_gate.specs.declared.grips.Done.{Done}
use Rattle.device_gate.specs.declared.grips.Ready.{Ready}
use Rattle.device_gate.specs.declared.slips.Slip.{Slip}
use Rattle.device_gate.specs.declared.slips.Task.TheVariants.{Drive, Probe, Sense}
use Rattle.device_gate.specs.declared.slips.Task.{Task}
use Rattle.device_gate.specs.declared.slips.Told.{Told}
use Rattle.device_gate.specs.declared.strangers.Stranger.{Stranger}
use Rattle.hub_core.specs.HubCalls.{DeviceGoesOut, IsGiven, IsProbeGiven, IsProbed, carried_by}
use Rattle.hub_core.specs.HubSteps.{Carried, Chose, HubState, HubStep, IsSlipOf, ProbeTaken, Probed, Refused, Returned, SlipFits, Take, give_if, is_kept, same_optional, same_slip, same_task, take}
use Rattle.hub_core.specs.OpenHubs.{OpenHub, configuration_of, hub_state_of}
use Rattle.hub_core.specs.Steps.{HandsOut, at_moment, may_probe}
use Rattle.lock_leasing.specs.Configurations.{Configuration}
use Rattle.lock_leasing.specs.declared.purposes.Purpose.{Purpose}
use Rattle.std.proofs.Common.{ap, arith, refl, subst, sym, ◌∙◌}
use Rattle.std.proofs.lemmas.Grind.{common_steps}
use Rattle.std.proofs.lemmas.Option.{slice_get_within}
use Rattle.std.specs.Prelude.{Bool, Err, List, None, Option, Some, [], false, if◌then◌else◌, length, nat_lt, slice_get, slice_set, suc, true, zero, ℕ, ◌&&◌, ◌<◌, ◌==◌, ◌∷◌, ◌≡◌}

set_place : {A : Type 0} (xs : List A) (i : ℕ) (y : A) → i < length xs → slice_get (slice_set xs i y) i ≡ Some y
set_place [] i y low = absurd (omega (arith, low))
set_place (x ∷ xs) zero y low = refl
set_place (x ∷ xs) (suc i) y low = set_place xs i y (omega (arith, low))

-- The device of a grip is out with its slip, for its task

-- .. once it went out, also when its call is made
still_out : {D : Type 0} (s t : OpenHub D) (d : ℕ) (grip : Gripped D Ready) (done : Gripped D Done) → grip.slip.device.0 ≡ d → slice_get s.places d ≡ Some (Home grip.device) → t.places ≡ slice_set s.places d (Out grip.slip grip.task)
    → done.slip ≡ grip.slip → done.task ≡ grip.task → IsKept t.places done.slip done.task
still_out s t d grip done number home places slip task =
    ap (λ (x : Slip). slice_get t.places x.device.0) slip ∙ ap (λ e. slice_get t.places e) number ∙ ap (λ l. slice_get l d) places
    ∙ set_place s.places d (Out grip.slip grip.task) (slice_get_within s.places d (Home grip.device) home)
    ∙ λ i. Some (Out (sym slip i) (sym task i))

same_optional_self : (o : Option ℕ) → same_optional o o ≡ true
same_optional_self None = refl
same_optional_self (Some x) = grind (arith, common_steps)

same_task_self : (task : Task) → same_task task task ≡ true
same_task_self (Drive v) = grind (arith, common_steps)
same_task_self Sense = refl
same_task_self (Probe v) = same_optional_self v

same_slip_self : (slip : Slip) → same_slip slip slip ≡ true
same_slip_self slip = grind (arith, common_steps)

passes : {D : Type 0} (t : OpenHub D) (done : Gripped D Done) → IsKept t.places done.slip done.task → is_kept (hub_state_of t) (carried_by done) ≡ true
passes t done kept = rw kept (rw (same_slip_self done.slip, same_task_self done.task) refl)

refused_if : (b : Bool) (s : HubState) (c : Configuration) (told : Carried) (result : Told) (x : Stranger) → b ≡ true → Returned (Refused x) ≡ Returned (give_if b s c told result).answer → ⊥
refused_if true s c told result x is answer = absurd (cc)
refused_if false s c told result x is answer = absurd (cc)

-- The grip of a run

maker_is : (s t : HubState) (r m d : ℕ) (slip : Slip) (purpose : Purpose) → HubStep s (Take r m slip) (Chose (HandsOut d purpose)) t → slip.maker ≡ r
maker_is s t r m d slip purpose step =
    let same : HandsOut d purpose ≡ (take s r m slip).choice = (let chosen = step.0 in cc) in
    let fits : SlipFits r (HandsOut d purpose) slip = subst (λ c. SlipFits r c slip) (sym same) step.2 in fits.maker

pub run_returns : {D : Type 0} (s t u : OpenHub D) (r m n : ℕ) (grip : Gripped D Ready) (done back : Gripped D Done) (x : Stranger) → 0 < r → DeviceGoesOut s r m grip t → done.slip ≡ grip.slip → done.task ≡ grip.task → IsGiven t done n (Err (back, x)) u → ⊥
run_returns s t u r m n grip done back x run out slip task given =
    let kept = still_out s t grip.slip.device.0 grip done refl out.home out.places slip task in
    let maker = ap (λ (y : Slip). y.maker) slip ∙ maker_is (hub_state_of s) (hub_state_of t) r m grip.slip.device.0 grip.slip out.purpose out.step in
    let low : nat_lt 0 done.slip.maker ≡ true = grind (arith, common_steps, maker, run) in
    refused_if (is_kept (hub_state_of t) (carried_by done) && nat_lt 0 done.slip.maker) (hub_state_of t) (at_moment (configuration_of t) n) (carried_by done) done.stage.told x (rw (passes t done kept, low) refl) given.0.0

-- The grip of the detector

went : (b : Bool) (x : ProbeTaken) (s : HubState) (task : Task) → Probed (Some task) ≡ Probed (if b then x else record { task = None; next = s }).task → b ≡ true
went true x s task answer = refl
went false x s task answer = absurd (cc)

pub probe_returns : {D : Type 0} (s t u : OpenHub D) (d : ℕ) (grip : Gripped D Ready) (done back : Gripped D Done) (x : Stranger) → IsProbed s d (Some grip) t → done.slip ≡ grip.slip → done.task ≡ grip.task → IsProbeGiven t done (Err (back, x)) u → ⊥
probe_returns s t u d grip done back x out slip task given =
    let own : IsSlipOf 0 d grip.slip = out.0.2 (went (may_probe (configuration_of s) d) _ (hub_state_of s) grip.task out.0.0) in
    let kept = still_out s t d grip done own.device out.1 out.2 slip task in
    let maker = ap (λ (y : Slip). y.maker) slip ∙ own.maker in
    let zero' : (done.slip.maker == 0) ≡ true = grind (arith, common_steps, maker) in
    refused_if (is_kept (hub_state_of t) (carried_by done) && (done.slip.maker == 0)) (hub_state_of t) (configuration_of t) (carried_by done) done.stage.told x (rw (passes t done kept, zero') refl) given.0.0
