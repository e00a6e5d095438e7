-- Sets of devices that have a device in common.
use Rattle.serial_line.proofs.Prelude.{Bool, IsTrue, List, [], ap, ap₂, arith, common_steps, contains_one, eq_by_cmp, false, list_any, nat_cmp, refl, sym, true, ℕ, ◌==◌, ◌||◌, ◌↔◌, ◌∙◌, ◌∷◌, ◌≡◌}
use Rattle.home_types.specs.DeviceSets.{Devices, Meet}
use Rattle.std.proofs.lemmas.Bool.{eq-eqb, or_left, or_right}
use Rattle.std.specs.Cmp.{unsigned_tied}
use Rattle.std.specs.FinSet as set

-- the number of some item passes
picked : {A : Type 0} (number : A → ℕ) (p : ℕ → Bool) (xs : List A) → list_any (λ x. p (number x)) xs ≡ true → (d : ℕ) × (list_any (λ x. number x == d) xs ≡ true) × (p d ≡ true)
picked number p [] some = absurd (cc)
picked {A} number p (x ∷ xs) some = at (p (number x)) refl (picked number p xs)
  where
    at : (b : Bool) → p (number x) ≡ b → (list_any (λ y. p (number y)) xs ≡ true → (d : ℕ) × (list_any (λ y. number y == d) xs ≡ true) × (p d ≡ true)) → (d : ℕ) × (list_any (λ y. number y == d) (x ∷ xs) ≡ true) × (p d ≡ true)
    at true e behind = (number x, (or_left ((number x) == (number x)) (list_any (λ y. number y == number x) xs) (eq-eqb (number x) (number x) refl)), e)
    at false e behind = let found = behind (grind (arith, common_steps)) in (found.0, or_right (number x == found.0) (list_any (λ y. number y == found.0) xs) found.1, found.2)

carried : {A : Type 0} (number : A → ℕ) (p : ℕ → Bool) (xs : List A) (d : ℕ) → list_any (λ x. number x == d) xs ≡ true → p d ≡ true → list_any (λ x. p (number x)) xs ≡ true
carried number p [] d there passes = absurd (cc)
carried {A} number p (x ∷ xs) d there passes = at (number x == d) refl there (λ rest. carried number p xs d rest passes)
  where
    at : (b : Bool) → (number x == d) ≡ b → (b || list_any (λ y. number y == d) xs) ≡ true → (list_any (λ y. number y == d) xs ≡ true → list_any (λ y. p (number y)) xs ≡ true) → (p (number x) || list_any (λ y. p (number y)) xs) ≡ true
    at true e there behind = let same : number x ≡ d = grind (arith, common_steps) in let here : p (number x) ≡ true = ap p same ∙ passes in rw here refl
    at false e there behind = rw (behind there) (grind (arith, common_steps))

pub both_ways : (a b : Bool) → (a ≡ true → b ≡ true) → (b ≡ true → a ≡ true) → a ≡ b
both_ways true b to from = sym (to refl)
both_ways false true to from = from refl
both_ways false false to from = refl

-- a device is in a set where it is among its items
pub listed : (s : Devices) (d : ℕ) → set.contains s d ≡ list_any (λ x. x == d) (set.items s)
listed s d = set.contains-items s d ∙ alike (set.items s)
  where
    turned : (x : ℕ) → (d == x) ≡ (x == d)
    turned x = grind (arith, common_steps)

    alike : (xs : List ℕ) → list_any (eq_by_cmp nat_cmp d) xs ≡ list_any (λ x. x == d) xs
    alike [] = refl
    alike (x ∷ xs) = ap₂ (λ a b. a || b) (unsigned_tied d x ∙ turned x) (alike xs)

-- some device of a set passes where some item of a list passes by its device, and these are the devices of the set
pub meets_by : {A : Type 0} (number : A → ℕ) (p : ℕ → Bool) (devices : Devices) (xs : List A) → ((d : ℕ) → set.contains devices d ≡ list_any (λ x. number x == d) xs) → list_any p (set.items devices) ≡ list_any (λ x. p (number x)) xs
meets_by {A} number p devices xs same = both_ways (list_any p (set.items devices)) (list_any (λ x. p (number x)) xs) to from
  where
    to : list_any p (set.items devices) ≡ true → list_any (λ x. p (number x)) xs ≡ true
    to some = let found = picked (λ d. d) p (set.items devices) some in carried number p xs found.0 (sym (same found.0) ∙ listed devices found.0 ∙ found.1) found.2

    from : list_any (λ x. p (number x)) xs ≡ true → list_any p (set.items devices) ≡ true
    from some = let found = picked number p xs some in carried (λ d. d) p (set.items devices) found.0 (sym (listed devices found.0) ∙ same found.0 ∙ found.1) found.2

-- some device of the one set is in the other
pub meets_told : (devices touched : Devices) (result : Bool) → (IsTrue result ↔ Meet touched devices) → result ≡ list_any (set.contains touched) (set.items devices)
meets_told devices touched result told = both_ways result (list_any (set.contains touched) (set.items devices)) to from
  where
    to : result ≡ true → list_any (set.contains touched) (set.items devices) ≡ true
    to e = let met = told.0 e in carried (λ d. d) (set.contains touched) (set.items devices) met.0 (sym (listed devices met.0) ∙ met.2) met.1

    from : list_any (set.contains touched) (set.items devices) ≡ true → result ≡ true
    from some = let found = picked (λ d. d) (set.contains touched) (set.items devices) some in told.1 (found.0, found.2, listed devices found.0 ∙ found.1)

-- .. where the other has one device alone
pub meets_one : (devices : Devices) (d : ℕ) → set.contains devices d ≡ list_any (set.contains (set.insert (set.empty {R = nat_cmp}) d)) (set.items devices)
meets_one devices d = listed devices d ∙ alike (set.items devices)
  where
    turned : (x : ℕ) → (x == d) ≡ (d == x)
    turned x = grind (arith, common_steps)

    alike : (xs : List ℕ) → list_any (λ x. x == d) xs ≡ list_any (set.contains (set.insert (set.empty {R = nat_cmp}) d)) xs
    alike [] = refl
    alike (x ∷ xs) = ap₂ (λ a b. a || b) (turned x ∙ contains_one d x) (alike xs)
