-- A grip that is not taken in, and a probe that is not handed out.
use Rattle.hub_core.proofs.Prelude.{Bool, Done, Err, Gripped, IsGiven, IsKept, IsProbeGiven, OpenHub, Refused, Returned, RunGiven, and-false, ap, at_moment, carried_by, configuration_of, false, give, give_if, give_probe, hub_state_of, is_kept, nat_lt, ne_eqb, refl, slice_get, slip_of, stranger, subst, sym, true, ℕ, ◌&&◌, ◌==◌, ◌∙◌, ◌≡◌, ◌≢◌}
use Rattle.device_gate.specs.declared.strangers.Stranger.{Stranger}
use Rattle.hub_core.proofs.calls.HubStates.{is_kept_there, slip_carried}

-- the stranger is the hub's
stranger_is : {D : Type 0} (s : OpenHub D) (grip : Gripped D Done) (x : Stranger) → x.kept ≡ slip_of (slice_get s.places grip.slip.device.0) → x.told ≡ grip.slip → x ≡ stranger (hub_state_of s) (carried_by grip)
stranger_is s grip x kept told =
    let kept_is = kept ∙ sym (slip_carried (slice_get s.places grip.slip.device.0)) in
    λ i. record { kept = kept_is i; told = told i }

-- a grip that is not the one which is out, or not a run's, is refused
pub refused_given : {D : Type 0} (s s₀ : OpenHub D) (grip : Gripped D Done) (m : ℕ) (x : Stranger) → s ≡ s₀ → x.kept ≡ slip_of (slice_get s.places grip.slip.device.0) → x.told ≡ grip.slip
    → (is_kept (hub_state_of s) (carried_by grip) && nat_lt 0 grip.slip.maker) ≡ false → IsGiven s₀ grip m (Err (grip, x)) s₀
refused_given {D = D} s s₀ grip m x same kept told not_kept =
    subst (λ (y : OpenHub D). IsGiven y grip m (Err (grip, x)) y) same
    ((ap (λ y. Returned (Refused y)) (stranger_is s grip x kept told) ∙ ap (λ (y : RunGiven). Returned y.answer) (sym gives), ap (λ (y : RunGiven). y.next) (sym gives)), refl, refl)
  where
    gives : give (hub_state_of s) (carried_by grip) grip.stage.told m ≡ record { answer = Refused (stranger (hub_state_of s) (carried_by grip)); next = hub_state_of s }
    gives = ap (λ b. give_if b (hub_state_of s) (at_moment (configuration_of s) m) (carried_by grip) grip.stage.told) not_kept

pub not_a_run : {D : Type 0} (s : OpenHub D) (grip : Gripped D Done) → grip.slip.maker ≡ 0 → (is_kept (hub_state_of s) (carried_by grip) && nat_lt 0 grip.slip.maker) ≡ false
not_a_run s grip zero' = ap (λ n. is_kept (hub_state_of s) (carried_by grip) && nat_lt 0 n) zero' ∙ and-false (is_kept (hub_state_of s) (carried_by grip))

-- the hub's test is the gate's
pub not_there : {D : Type 0} (s : OpenHub D) (grip : Gripped D Done) → (IsKept s.places grip.slip grip.task → ⊥) → is_kept (hub_state_of s) (carried_by grip) ≡ false
not_there s grip away = by_test (is_kept (hub_state_of s) (carried_by grip)) refl
  where
    by_test : (b : Bool) → is_kept (hub_state_of s) (carried_by grip) ≡ b → is_kept (hub_state_of s) (carried_by grip) ≡ false
    by_test true is = absurd (away (is_kept_there s grip.slip grip.task is))
    by_test false is = is

pub not_out : {D : Type 0} (s : OpenHub D) (grip : Gripped D Done) → (IsKept s.places grip.slip grip.task → ⊥) → (is_kept (hub_state_of s) (carried_by grip) && nat_lt 0 grip.slip.maker) ≡ false
not_out s grip away = ap (λ b. b && nat_lt 0 grip.slip.maker) (not_there s grip away)

-- a grip that is not the one which is out, or a run's, is refused
pub refused_probe : {D : Type 0} (s s₀ : OpenHub D) (grip : Gripped D Done) (x : Stranger) → s ≡ s₀ → x.kept ≡ slip_of (slice_get s.places grip.slip.device.0) → x.told ≡ grip.slip
    → (is_kept (hub_state_of s) (carried_by grip) && (grip.slip.maker == 0)) ≡ false → IsProbeGiven s₀ grip (Err (grip, x)) s₀
refused_probe {D = D} s s₀ grip x same kept told not_kept =
    subst (λ (y : OpenHub D). IsProbeGiven y grip (Err (grip, x)) y) same
    ((ap (λ y. Returned (Refused y)) (stranger_is s grip x kept told) ∙ ap (λ (y : RunGiven). Returned y.answer) (sym gives), ap (λ (y : RunGiven). y.next) (sym gives)), refl, refl)
  where
    gives : give_probe (hub_state_of s) (carried_by grip) grip.stage.told ≡ record { answer = Refused (stranger (hub_state_of s) (carried_by grip)); next = hub_state_of s }
    gives = ap (λ b. give_if b (hub_state_of s) (configuration_of s) (carried_by grip) grip.stage.told) not_kept

pub not_a_probe : {D : Type 0} (s : OpenHub D) (grip : Gripped D Done) → grip.slip.maker ≢ 0 → (is_kept (hub_state_of s) (carried_by grip) && (grip.slip.maker == 0)) ≡ false
not_a_probe s grip run = ap (λ b. is_kept (hub_state_of s) (carried_by grip) && b) (ne_eqb grip.slip.maker 0 run) ∙ and-false (is_kept (hub_state_of s) (carried_by grip))

pub not_probed : {D : Type 0} (s : OpenHub D) (grip : Gripped D Done) → (IsKept s.places grip.slip grip.task → ⊥) → (is_kept (hub_state_of s) (carried_by grip) && (grip.slip.maker == 0)) ≡ false
not_probed s grip away = ap (λ b. b && (grip.slip.maker == 0)) (not_there s grip away)
