-- An event of a device stands behind the sealed items, where no run with an access to the device is one of them.
use Rattle.failure_serialization.proofs.Prelude.{Access, Bool, Kept, List, Mark, Marked, None, Option, Ran, RunNo, Some, [], ap, arith, common_steps, cond, event_place, false, find, first_waiting, length, list_any, option_map, place_of, place_or_end, place_told, refl, sym, true, unsealed_place, untouched, unwrap_or, waits, ℕ, ◌||◌, ◌∙◌, ◌∷◌, ◌≡◌, ◌≤◌}
use Rattle.serial_line.specs.Labels.{is_sealed}

-- the first of which one test holds is none of which another does
found_off : (p q : Access → Bool) (xs : List Access) (y : Access) → list_any q xs ≡ false → find p xs ≡ Some y → q y ≡ false
found_off p q [] y none found = absurd (cc)
found_off p q (x ∷ xs) y none found = by_test (p x) found (found_off p q xs y (last (q x) (list_any q xs) none))
  where
    first : (a b : Bool) → (a || b) ≡ false → a ≡ false
    first a b h = grind (arith, common_steps)

    last : (a b : Bool) → (a || b) ≡ false → b ≡ false
    last a b h = grind (arith, common_steps)

    same : Some x ≡ Some y → x ≡ y
    same e = ap (λ o. unwrap_or o x) e

    by_test : (b : Bool) → cond b (Some x) (find p xs) ≡ Some y → (find p xs ≡ Some y → q y ≡ false) → q y ≡ false
    by_test true e rest = ap q (sym (same e)) ∙ first (q x) (list_any q xs) none
    by_test false e rest = rest e

-- the place is one of the line
pub event_within : (history : List Kept) (first : Option RunNo) (xs : List Access) (line : List Mark) → event_place history first xs line ≤ length line
event_within history first xs line = by_found (first_waiting history first xs)
  where
    by_place : (r : RunNo) (o : Option ℕ) → place_of (Ran r) line ≡ o → unwrap_or o (length line) ≤ length line
    by_place r None at = omega arith
    by_place r (Some k) at = let there = (place_told (Ran r) line k (untouched (Ran r)) at).0 in omega (arith, there)

    by_found : (o : Option RunNo) → place_or_end o line ≤ length line
    by_found None = omega arith
    by_found (Some r) = by_place r (place_of (Ran r) line) refl

pub event_unsealed : (history : List Kept) (first : Option RunNo) (xs : List Access) (line : Marked) → list_any (λ x. is_sealed (Ran x.run) line) xs ≡ false → line.sealed ≤ length line.marks → line.sealed ≤ event_place history first xs line.marks
event_unsealed history first xs line none within = by_found (find (waits history first) xs) refl
  where
    by_place : (r : RunNo) (o : Option ℕ) → is_sealed (Ran r) line ≡ false → place_of (Ran r) line.marks ≡ o → line.sealed ≤ unwrap_or o (length line.marks)
    by_place r None off at = within
    by_place r (Some k) off at = unsealed_place (Ran r) line.marks k line.sealed at off

    by_found : (o : Option Access) → find (waits history first) xs ≡ o → line.sealed ≤ place_or_end (option_map (λ x. x.run) o) line.marks
    by_found None e = within
    by_found (Some y) e = by_place y.run (place_of (Ran y.run) line.marks) (found_off (waits history first) (λ x. is_sealed (Ran x.run) line) xs y none e) refl
