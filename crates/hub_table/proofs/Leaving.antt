-- Grips that leave a table from the last place on, and places that hold nothing.
use Rattle.device_gate.proofs.Cited.{none_out}
use Rattle.hub_table.proofs.Prelude.{Gripped, GripsAreHeld, Home, IsKept, List, None, Option, Place, PlacesAreEmpty, Ready, Some, [], all_home, ap, arith, length, refl, slice_get, slice_get_within, slice_set, suc, sym, zero, ℕ, ◌++◌, ◌<◌, ◌∙◌, ◌∷◌, ◌≡◌, ◌≢◌}
use Rattle.hub_table.proofs.Holding.{held_kept, held_out}

-- each grip that is left lies in the place of its device, which is out with it
abbrev pub AreKept : {D : Type 0} → List (Place D) → List (Option (Gripped D Ready)) → Type 0
AreKept {D} places grips = (d : ℕ) (grip : Gripped D Ready) → slice_get grips d ≡ Some (Some grip) → (grip.slip.device.0 ≡ d) × IsKept places grip.slip grip.task

pub all_kept : {D : Type 0} (places : List (Place D)) (grips : List (Option (Gripped D Ready))) → GripsAreHeld places grips → AreKept places grips
all_kept places grips kept d grip at = (kept.own d grip at, held_kept places grips d grip kept at)

get_front : {A : Type 0} (xs : List A) (y : A) (i : ℕ) (x : A) → slice_get xs i ≡ Some x → slice_get (xs ++ y ∷ []) i ≡ Some x
get_front [] y i x at = absurd (cc)
get_front (z ∷ xs) y zero x at = at
get_front (z ∷ xs) y (suc i) x at = get_front xs y i x at

get_last : {A : Type 0} (xs : List A) (y : A) → slice_get (xs ++ y ∷ []) (length xs) ≡ Some y
get_last [] y = refl
get_last (z ∷ xs) y = get_last xs y

set_other : {A : Type 0} (xs : List A) (i j : ℕ) (y : A) → j ≢ i → slice_get (slice_set xs i y) j ≡ slice_get xs j
set_other [] i j y other = refl
set_other (x ∷ xs) zero zero y other = absurd (other refl)
set_other (x ∷ xs) zero (suc j) y other = refl
set_other (x ∷ xs) (suc i) zero y other = refl
set_other (x ∷ xs) (suc i) (suc j) y other = set_other xs i j y (λ e. other (ap (λ n. suc n) e))

-- the last place goes, which holds nothing
pub none_leaves : {D : Type 0} (places : List (Place D)) (grips rest : List (Option (Gripped D Ready))) → grips ≡ rest ++ None ∷ [] → AreKept places grips → AreKept places rest
none_leaves places grips rest is kept d x at = kept d x (ap (λ l. slice_get l d) is ∙ get_front rest None d (Some x) at)

-- .. or a grip, with which its device is out
pub last_kept : {D : Type 0} (places : List (Place D)) (grips rest : List (Option (Gripped D Ready))) (grip : Gripped D Ready) → grips ≡ rest ++ Some grip ∷ [] → AreKept places grips → IsKept places grip.slip grip.task
last_kept places grips rest grip is kept = (kept (length rest) grip (ap (λ l. slice_get l (length rest)) is ∙ get_last rest (Some grip))).1

-- .. and which comes home
pub one_leaves : {D : Type 0} (places after : List (Place D)) (grips rest : List (Option (Gripped D Ready))) (grip : Gripped D Ready) (device : D)
    → grips ≡ rest ++ Some grip ∷ [] → AreKept places grips → after ≡ slice_set places grip.slip.device.0 (Home device) → AreKept after rest
one_leaves places after grips rest grip device is kept put d x at =
    let own = kept (length rest) grip (ap (λ l. slice_get l (length rest)) is ∙ get_last rest (Some grip)) in
    let left = kept d x (ap (λ l. slice_get l d) is ∙ get_front rest (Some grip) d (Some x) at) in
    let low : d < length rest = slice_get_within rest d (Some x) at in
    (left.0, ap (λ l. slice_get l x.slip.device.0) put ∙ set_other places grip.slip.device.0 x.slip.device.0 (Home device) (λ same. omega (arith, left.0, same, own.0, low)) ∙ left.1)

-- Places that hold nothing

pub more_hands : {A : Type 0} (hands : List (Option A)) → PlacesAreEmpty hands → PlacesAreEmpty (hands ++ None ∷ [])
more_hands [] none zero x at = absurd (cc)
more_hands [] none (suc d) x at = absurd (cc)
more_hands (h ∷ hands) none zero x at = none zero x at
more_hands (h ∷ hands) none (suc d) x at = more_hands hands (λ b y there. none (suc b) y there) d x at

pub front_hands : {A : Type 0} (hands others : List (Option A)) → PlacesAreEmpty (hands ++ others) → PlacesAreEmpty hands
front_hands [] others none d x at = absurd (cc)
front_hands (h ∷ hands) others none zero x at = none zero x at
front_hands (h ∷ hands) others none (suc d) x at = front_hands hands others (λ b y there. none (suc b) y there) d x at

pub last_hand : {A : Type 0} (hands : List (Option A)) (x : A) → PlacesAreEmpty (hands ++ Some x ∷ []) → ⊥
last_hand [] x none = none 0 x refl
last_hand (h ∷ hands) x none = last_hand hands x (λ b y there. none (suc b) y there)

pub no_hands : {A : Type 0} → PlacesAreEmpty {A = A} []
no_hands d x at = absurd (cc)

-- where each device is home, nothing is held
pub empty_at_close : {D : Type 0} (places : List (Place D)) (grips : List (Option (Gripped D Ready))) (devices : List D) → GripsAreHeld places grips → places ≡ all_home devices → PlacesAreEmpty grips
empty_at_close places grips devices kept home d grip at = none_out devices d grip.slip grip.task (ap (λ l. slice_get l d) (sym home) ∙ held_out places grips d grip kept at)
