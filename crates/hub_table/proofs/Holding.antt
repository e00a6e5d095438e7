-- Grips that are put into the places of their devices, and taken out of them.
use Rattle.hub_table.proofs.Prelude.{AreInPlace, DeviceGoesOut, Gripped, GripsAreHeld, Home, IsKept, IsProbed, List, None, OpenHub, Option, Out, Place, PlacesAreEmpty, Ready, Slip, SlipAndTask, Some, Task, [], all_home, ap, arith, hub_state_of, kept_of, length, lent_by, lent_in_place, option_map, refl, slice_get, slice_get-map, slice_set, subst, suc, sym, took_probe, what_is_held, what_is_lent, zero, ℕ, ◌∙◌, ◌∷◌, ◌≡◌}
use Rattle.std.proofs.lemmas.List.{map-set}

-- What is out, by place and by grip

lent_in : {D : Type 0} (o : Option (Place D)) (slip : Slip) (task : Task) → ◌≡◌ {A = Option (Option SlipAndTask)} (option_map (λ p. kept_of (Some p)) o) (Some (Some (slip, task))) → o ≡ Some (Out slip task)
lent_in None slip task e = absurd (cc)
lent_in (Some (Home device)) slip task e = absurd (cc)
lent_in (Some (Out own of)) slip task e = let pair : ◌≡◌ {A = SlipAndTask} (own, of) (slip, task) = cc in ap (λ (c : SlipAndTask). Some (Out c.0 c.1)) pair

nothing_in : {D : Type 0} (o : Option (Option (Gripped D Ready))) → ◌≡◌ {A = Option (Option SlipAndTask)} (option_map (λ h. lent_by h) o) (Some None) → o ≡ Some None
nothing_in None e = absurd (cc)
nothing_in (Some None) e = refl
nothing_in (Some (Some grip)) e = absurd (cc)

-- what is held for a device is what is out of its place
held_is_out : {D : Type 0} (places : List (Place D)) (grips : List (Option (Gripped D Ready))) (d : ℕ) → GripsAreHeld places grips
    → ◌≡◌ {A = Option (Option SlipAndTask)} (option_map (λ h. lent_by h) (slice_get grips d)) (option_map (λ p. kept_of (Some p)) (slice_get places d))
held_is_out places grips d kept =
    sym (slice_get-map (λ h. lent_by h) grips d) ∙ ap (λ out. slice_get out d) kept.held ∙ slice_get-map (λ p. kept_of (Some p)) places d

-- for a device that is home nothing is held
pub free_at : {D : Type 0} (places : List (Place D)) (grips : List (Option (Gripped D Ready))) (d : ℕ) (device : D) → GripsAreHeld places grips → slice_get places d ≡ Some (Home device) → slice_get grips d ≡ Some None
free_at places grips d device kept home =
    nothing_in (slice_get grips d) (held_is_out places grips d kept ∙ ap (λ o. option_map (λ p. kept_of (Some p)) o) home)

-- a grip that is held is the one with which its device is out
pub held_out : {D : Type 0} (places : List (Place D)) (grips : List (Option (Gripped D Ready))) (d : ℕ) (grip : Gripped D Ready) → GripsAreHeld places grips → slice_get grips d ≡ Some (Some grip) → slice_get places d ≡ Some (Out grip.slip grip.task)
held_out places grips d grip kept at =
    lent_in (slice_get places d) grip.slip grip.task (sym (held_is_out places grips d kept) ∙ ap (λ o. option_map (λ h. lent_by h) o) at)

pub held_kept : {D : Type 0} (places : List (Place D)) (grips : List (Option (Gripped D Ready))) (d : ℕ) (grip : Gripped D Ready) → GripsAreHeld places grips → slice_get grips d ≡ Some (Some grip) → IsKept places grip.slip grip.task
held_kept places grips d grip kept at = ap (λ e. slice_get places e) (kept.own d grip at) ∙ held_out places grips d grip kept at

joined : {D : Type 0} (hand : Option (Option (Gripped D Ready))) (place : Option (Place D)) → ◌≡◌ {A = Option (Option SlipAndTask)} (option_map (λ h. lent_by h) hand) (option_map (λ p. kept_of (Some p)) place) → lent_in_place hand ≡ kept_of place
joined None None e = refl
joined None (Some place) e = absurd (cc)
joined (Some hand) None e = absurd (cc)
joined (Some hand) (Some place) e = let same : ◌≡◌ {A = Option SlipAndTask} (lent_by hand) (kept_of (Some place)) = cc in same

-- what is read of the grips is what is out
pub out_held : {D : Type 0} (places : List (Place D)) (grips : List (Option (Gripped D Ready))) (d : ℕ) → GripsAreHeld places grips → lent_in_place (slice_get grips d) ≡ kept_of (slice_get places d)
out_held places grips d kept = joined (slice_get grips d) (slice_get places d) (held_is_out places grips d kept)

-- Changes

-- what is true of each item and its place stays so where an item is put for which it is true
each_put : {A : Type 0} (P : ℕ → A → Type 0) (xs : List A) (i : ℕ) (y : A) → P i y → ((j : ℕ) (x : A) → slice_get xs j ≡ Some x → P j x) → (j : ℕ) (x : A) → slice_get (slice_set xs i y) j ≡ Some x → P j x
each_put P [] i y put each j x at = absurd (cc)
each_put P (z ∷ xs) zero y put each zero x at = let same : y ≡ x = cc in subst (P 0) same put
each_put P (z ∷ xs) zero y put each (suc j) x at = each (suc j) x at
each_put P (z ∷ xs) (suc i) y put each zero x at = each zero x at
each_put P (z ∷ xs) (suc i) y put each (suc j) x at = each_put (λ n. P (suc n)) xs i y put (λ k. each (suc k)) j x at

-- the grip of this place, where it holds one, is of this device
abbrev IsOf : {D : Type 0} → ℕ → Option (Gripped D Ready) → Type 0
IsOf {D} d hand = (grip : Gripped D Ready) → hand ≡ Some grip → grip.slip.device.0 ≡ d

in_place : {D : Type 0} (grips : List (Option (Gripped D Ready))) (d : ℕ) (hand : Option (Gripped D Ready)) → AreInPlace grips → IsOf d hand → AreInPlace (slice_set grips d hand)
in_place grips d hand own put e grip at =
    each_put IsOf grips d hand put (λ j x there g is. own j g (there ∙ ap (λ h. Some h) is)) e (Some grip) at grip refl

put_keeps : {D : Type 0} (places after : List (Place D)) (grips now : List (Option (Gripped D Ready))) (d : ℕ) (place : Place D) (hand : Option (Gripped D Ready))
    → GripsAreHeld places grips → lent_by hand ≡ kept_of (Some place) → IsOf d hand → after ≡ slice_set places d place → now ≡ slice_set grips d hand → GripsAreHeld after now
put_keeps places after grips now d place hand kept fits own put is = record {
  held = ap (λ g. what_is_held g) is ∙ map-set (λ h. lent_by h) grips d hand ∙ (λ i. slice_set (kept.held i) d (fits i))
      ∙ sym (map-set (λ p. kept_of (Some p)) places d place) ∙ sym (ap (λ p. what_is_lent p) put);
  own = subst AreInPlace (sym is) (in_place grips d hand kept.own own);
}

-- a device goes out, and its grip stays
pub goes_out : {D : Type 0} (places after : List (Place D)) (grips now : List (Option (Gripped D Ready))) (d : ℕ) (grip : Gripped D Ready)
    → GripsAreHeld places grips → grip.slip.device.0 ≡ d → after ≡ slice_set places d (Out grip.slip grip.task) → now ≡ slice_set grips d (Some grip) → GripsAreHeld after now
goes_out {D = D} places after grips now d grip kept own put is =
    put_keeps places after grips now d (Out grip.slip grip.task) (Some grip) kept refl (λ g e. (let same : grip ≡ g = cc in ap (λ (y : Gripped D Ready). y.slip.device.0) (sym same) ∙ own)) put is

-- a grip is lifted, and its device comes home
pub comes_home : {D : Type 0} (places after : List (Place D)) (grips now : List (Option (Gripped D Ready))) (d : ℕ) (grip : Gripped D Ready) (device : D)
    → GripsAreHeld places grips → slice_get grips d ≡ Some (Some grip) → after ≡ slice_set places grip.slip.device.0 (Home device) → now ≡ slice_set grips d None → GripsAreHeld after now
comes_home places after grips now d grip device kept at put is =
    put_keeps places after grips now d (Home device) None kept refl (λ g e. absurd (cc)) (put ∙ ap (λ e. slice_set places e (Home device)) (kept.own d grip at)) is

-- no device goes out or comes home
pub stays : {D : Type 0} (places after : List (Place D)) (grips : List (Option (Gripped D Ready))) → GripsAreHeld places grips → after ≡ places → GripsAreHeld after grips
stays places after grips kept same = subst (λ p. GripsAreHeld p grips) (sym same) kept

-- Steps of the hub

-- the grip that a run's step hands out finds its place free
pub turn_free : {D : Type 0} (s t : OpenHub D) (r m : ℕ) (grip : Gripped D Ready) (slip : Slip) (grips : List (Option (Gripped D Ready)))
    → GripsAreHeld s.places grips → DeviceGoesOut s r m grip t → slip ≡ grip.slip → slice_get grips slip.device.0 ≡ Some None
turn_free s t r m grip slip grips kept out same = free_at s.places grips slip.device.0 grip.device kept (ap (λ (y : Slip). slice_get s.places y.device.0) same ∙ out.home)

-- .. and lies there
pub turn_keeps : {D : Type 0} (s t : OpenHub D) (r m : ℕ) (grip : Gripped D Ready) (slip : Slip) (grips now : List (Option (Gripped D Ready)))
    → GripsAreHeld s.places grips → DeviceGoesOut s r m grip t → slip ≡ grip.slip → now ≡ slice_set grips slip.device.0 (Some grip) → GripsAreHeld t.places now
turn_keeps s t r m grip slip grips now kept out same is =
    goes_out s.places t.places grips now grip.slip.device.0 grip kept refl out.places (is ∙ ap (λ (y : Slip). slice_set grips y.device.0 (Some grip)) same)

-- the same of the detector's
pub probe_free : {D : Type 0} (s t : OpenHub D) (d : ℕ) (grip : Gripped D Ready) (grips : List (Option (Gripped D Ready)))
    → GripsAreHeld s.places grips → IsProbed s d (Some grip) t → slice_get grips d ≡ Some None
probe_free s t d grip grips kept out = free_at s.places grips d grip.device kept out.1

pub probe_keeps : {D : Type 0} (s t : OpenHub D) (d : ℕ) (grip : Gripped D Ready) (grips now : List (Option (Gripped D Ready)))
    → GripsAreHeld s.places grips → IsProbed s d (Some grip) t → now ≡ slice_set grips d (Some grip) → GripsAreHeld t.places now
probe_keeps s t d grip grips now kept out is =
    goes_out s.places t.places grips now d grip kept (took_probe (hub_state_of s) (hub_state_of t) d grip.slip grip.task out.0).2.device out.2 is

-- A table that opens

nothing_held : {D : Type 0} (devices : List D) (grips : List (Option (Gripped D Ready))) → PlacesAreEmpty grips → length grips ≡ length devices → what_is_held grips ≡ what_is_lent (all_home devices)
nothing_held [] [] none size = refl
nothing_held [] (h ∷ grips) none size = absurd (omega (arith, size))
nothing_held (device ∷ devices) [] none size = absurd (omega (arith, size))
nothing_held (device ∷ devices) (None ∷ grips) none size = ap (λ out. None ∷ out) (nothing_held devices grips (λ d x at. none (suc d) x at) (omega (arith, size)))
nothing_held (device ∷ devices) (Some grip ∷ grips) none size = absurd (none 0 grip refl)

pub opens : {D : Type 0} (places : List (Place D)) (devices : List D) (grips : List (Option (Gripped D Ready))) → places ≡ all_home devices → PlacesAreEmpty grips → length grips ≡ length devices → GripsAreHeld places grips
opens places devices grips home none size = record {
  held = nothing_held devices grips none size ∙ sym (ap (λ p. what_is_lent p) home);
  own = λ d grip at. absurd (none d grip at);
}
