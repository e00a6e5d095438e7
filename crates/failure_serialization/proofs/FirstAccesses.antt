-- The first access to a device of which a test holds.
use Rattle.failure_serialization.proofs.Prelude.{Access, Bool, List, None, Option, RunNo, Some, [], accesses_before, ap, arith, common_steps, cond, false, find, first_before, has_access, is_some, list_any, option_map, refl, true, ℕ, ◌||◌, ◌∷◌, ◌≡◌}

all_before : (r : ℕ) (xs : List Access) → has_access r xs ≡ false → accesses_before r xs ≡ xs
all_before r [] none = refl
all_before r (x ∷ xs) none = grind (arith, common_steps, all_before r xs)

-- before a run that has no access stand all
pub first_of_all : (test : Access → Bool) (r : ℕ) (xs : List Access) → has_access r xs ≡ false → first_before test r xs ≡ option_map (λ x. x.run) (find test xs)
first_of_all test r xs none = ap (λ ys. option_map (λ (x : Access). x.run) (find test ys)) (all_before r xs none)

-- one is found where some passes
pub some_found : (test : Access → Bool) (xs : List Access) → is_some (find test xs) ≡ list_any test xs
some_found test [] = refl
some_found test (x ∷ xs) = by_test (test x) (some_found test xs)
  where
    by_test : (b : Bool) → is_some (find test xs) ≡ list_any test xs → is_some (cond b (Some x) (find test xs)) ≡ (b || list_any test xs)
    by_test true rest = refl
    by_test false rest = rest

-- .. and its run is told
pub some_run : (found : Option Access) → is_some (option_map {U = RunNo} (λ x. x.run) found) ≡ is_some found
some_run None = refl
some_run (Some x) = refl
