-- What is known of each device, and which grips are out, when one was set.
use Rattle.device_gate.specs.declared.gates.Place.{Place}
use Rattle.window_devices.proofs.Prelude.{DeviceProgress, Grip, List, Option, Some, ap, arith, common_steps, eq-eqb, false, get_or-set_other, get_or-set_same, grip_in, if◌then◌else◌, inl, inr, length, no_device, progress_at, put, refl, slice_get, slice_set, sym, true, ℕ, ◌<◌, ◌==◌, ◌∙◌, ◌≡◌, ◌≢◌}
use Rattle.window_devices.proofs.SetPlaces.{get_set}

-- a put function, place by place
pub put_at : {A : Type 0} (f h : ℕ → A) (d : ℕ) (v : A) → h d ≡ v → ((e : ℕ) → e ≢ d → h e ≡ f e) → h ≡ put f d v
put_at f h d v same others = λ i e. by_place e i
  where
    by_place : (e : ℕ) → h e ≡ put f d v e
    by_place e = elim (e == d) as (λ b. (e == d) ≡ b → h e ≡ (if b then v else f e)) [
      | true ↦ (λ q. ap h (grind (arith, common_steps)) ∙ same)
      | false ↦ (λ q. others e (λ p. absurd (cc (sym q ∙ eq-eqb e d p))))
    ] refl

pub device_here : (devices : List DeviceProgress) (d : ℕ) (x : DeviceProgress) → d < length devices → progress_at (slice_set devices d x) d ≡ x
device_here devices d x within = get_or-set_same devices d x no_device within

pub device_there : (devices : List DeviceProgress) (d e : ℕ) (x : DeviceProgress) → e ≢ d → progress_at (slice_set devices d x) e ≡ progress_at devices e
device_there devices d e x other = get_or-set_other devices d e x no_device other

pub place_here : {D : Type 0} (places : List (Place D)) (d : ℕ) (x : Place D) → d < length places → slice_get (slice_set places d x) d ≡ Some x
place_here places d x within = elim (get_set places d d x within) [ inl p ↦ p.1 | inr q ↦ absurd (q.0 refl) ]

pub place_there : {D : Type 0} (places : List (Place D)) (d e : ℕ) (x : Place D) → d < length places → e ≢ d → slice_get (slice_set places d x) e ≡ slice_get places e
place_there places d e x within other = elim (get_set places d e x within) [ inl p ↦ absurd (other p.0) | inr q ↦ q.1 ]

pub grips_set : {D : Type 0} (places : List (Place D)) (devices : List DeviceProgress) (d : ℕ) (x : Place D) (y : DeviceProgress) → d < length places → d < length devices
    → ◌≡◌ {A = ℕ → Option Grip} (λ e. grip_in (slice_get (slice_set places d x) e) (progress_at (slice_set devices d y) e).purpose) (put (λ e. grip_in (slice_get places e) (progress_at devices e).purpose) d (grip_in (Some x) y.purpose))
grips_set places devices d x y within known = put_at _ _ d _
    (ap (λ p. grip_in p (progress_at (slice_set devices d y) d).purpose) (place_here places d x within) ∙ ap (λ (z : DeviceProgress). grip_in (Some x) z.purpose) (device_here devices d y known))
    (λ e other. ap (λ p. grip_in p (progress_at (slice_set devices d y) e).purpose) (place_there places d e x within other) ∙ ap (λ (z : DeviceProgress). grip_in (slice_get places e) z.purpose) (device_there devices d e y other))

-- where the devices stand, and their probes and openings, when one was set
pub known_set : {A : Type 0} (f : DeviceProgress → A) (devices : List DeviceProgress) (d : ℕ) (y : DeviceProgress) → d < length devices
    → ◌≡◌ {A = ℕ → A} (λ e. f (progress_at (slice_set devices d y) e)) (put (λ e. f (progress_at devices e)) d (f y))
known_set f devices d y known = put_at _ _ d _ (ap f (device_here devices d y known)) (λ e other. ap f (device_there devices d e y other))

pub known_same : {A : Type 0} (f : DeviceProgress → A) (devices : List DeviceProgress) (d : ℕ) (y : DeviceProgress) → d < length devices → f y ≡ f (progress_at devices d)
    → (e : ℕ) → f (progress_at (slice_set devices d y) e) ≡ f (progress_at devices e)
known_same f devices d y known same e = elim (e == d) as (λ b. (e == d) ≡ b → f (progress_at (slice_set devices d y) e) ≡ f (progress_at devices e)) [
  | true ↦ (λ q. let here : e ≡ d = grind (arith, common_steps) in ap (λ k. f (progress_at (slice_set devices d y) k)) here ∙ ap f (device_here devices d y known) ∙ same ∙ ap (λ k. f (progress_at devices k)) (sym here))
  | false ↦ (λ q. ap f (device_there devices d e y (λ p. absurd (cc (sym q ∙ eq-eqb e d p)))))
] refl
