-- A device has at most one access for each run of the window.
use Rattle.window_order.proofs.Prelude.{Access, AllByRecursion, AllPairs, AreOfTwoRuns, Back, Bool, Failed, Grips, IsDisciplined, Item, LineageIsKept, LineageState, List, None, Option, Ran, Reading, Run, Setting, Some, [], access_read, accesses_along, accesses_without, ap, arith, commits_write, common_steps, false, if◌then◌else◌, is_of, length, list_any, none_behind, not, of_run, pairs_from_all, point, refl, slice_get, subst, suc, sym, touches, true, uses, without_none, zero, ℕ, ◌&&◌, ◌+◌, ◌<◌, ◌==◌, ◌∷◌, ◌≡◌, ◌≤◌}
use Rattle.lineage_table.proofs.Cited.{Pairs}
use Rattle.std.proofs.lemmas.List.Kept.{AllPairs-filter}
use Rattle.std.proofs.lemmas.Option.{slice_get_within}

-- without the access of one run at most one is gone
one_gone : (r : ℕ) (xs : List Access) → Pairs AreOfTwoRuns xs → length xs ≤ length (accesses_without r xs) + 1
unfolding Pairs
one_gone r [] pairs = omega arith
one_gone r (x ∷ xs) pairs = at (is_of r x) refl (one_gone r xs pairs.1)
  where
    at : (b : Bool) → is_of r x ≡ b → length xs ≤ length (accesses_without r xs) + 1 → suc (length xs) ≤ length (if not b then (x ∷ accesses_without r xs) else accesses_without r xs) + 1
    at true own rest = let same : length (accesses_without r xs) ≡ length xs = ap (λ l. length l) (without_none r xs (none_behind r x xs own pairs.0)) in omega (arith, same)
    at false other rest = omega (arith, rest)

-- the run of the access is one of so many, counted from 1
abbrev IsOneOf : ℕ → Access → Type 0
IsOneOf n x = (0 < x.run.0) × (x.run.0 ≤ n)

others_are : (n : ℕ) (xs : List Access) → AllByRecursion (IsOneOf (suc n)) xs → AllByRecursion (IsOneOf n) (accesses_without (suc n) xs)
others_are n [] each = tt
others_are n (x ∷ xs) each = at (is_of (suc n) x) refl (others_are n xs each.1)
  where
    less : (k : ℕ) → (0 < k) × (k ≤ suc n) → (k == suc n) ≡ false → (0 < k) × (k ≤ n)
    less k one other = (one.0, grind (arith, common_steps))

    at : (b : Bool) → is_of (suc n) x ≡ b → AllByRecursion (IsOneOf n) (accesses_without (suc n) xs) → AllByRecursion (IsOneOf n) (if not b then (x ∷ accesses_without (suc n) xs) else accesses_without (suc n) xs)
    at true own rest = rest
    at false other rest = (less x.run.0 each.0 other, rest)

few_runs : (n : ℕ) (xs : List Access) → AllPairs AreOfTwoRuns xs → AllByRecursion (IsOneOf n) xs → length xs ≤ n
few_runs zero [] pairs each = omega arith
few_runs zero (x ∷ xs) pairs each = absurd (omega (arith, each.0.0, each.0.1))
few_runs (suc n) xs pairs each =
    let rest : length (accesses_without (suc n) xs) ≤ n = few_runs n (accesses_without (suc n) xs) (AllPairs-filter AreOfTwoRuns (λ x. not (is_of (suc n) x)) xs pairs) (others_are n xs each) in
    omega (arith, rest, one_gone (suc n) xs (pairs_from_all AreOfTwoRuns xs pairs))

-- the run is one of the window's, where it has a device
run_there : (runs : List Run) (r d : ℕ) → touches runs r d ≡ true → (0 < r) × (r ≤ length runs)
run_there runs zero d used = absurd (cc)
run_there runs (suc i) d used = at (slice_get runs i) refl used
  where
    at : (o : Option Run) → slice_get runs i ≡ o → touches runs (suc i) d ≡ true → (0 < suc i) × (suc i ≤ length runs)
    at None e touched = absurd (grind (arith, common_steps, e))
    at (Some run) e touched = let within : i < length runs = slice_get_within runs i run e in (omega arith, omega (arith, within))

-- what holds of each run that has one holds of the run of each access
along_each : (P : ℕ → Type 0) (has_one covering : ℕ → Bool) (access : ℕ → Access) → ((r : ℕ) → (access r).run.0 ≡ r) → ((r : ℕ) → has_one r ≡ true → P r) → (is : List Item) → AllByRecursion (λ x. P x.run.0) (accesses_along has_one covering access is)
along_each P has_one covering access own each [] = tt
along_each P has_one covering access own each (Ran r ∷ is) = at (has_one r.0) (not (list_any (of_run covering) is)) refl (along_each P has_one covering access own each is)
  where
    at : (a b : Bool) → has_one r.0 ≡ a → AllByRecursion (λ x. P x.run.0) (accesses_along has_one covering access is)
        → AllByRecursion (λ x. P x.run.0) (if a && b then (access r.0 ∷ accesses_along has_one covering access is) else accesses_along has_one covering access is)
    at true true has rest = (subst P (sym (own r.0)) (each r.0 has), rest)
    at true false has rest = rest
    at false b has rest = rest
along_each P has_one covering access own each (Failed e k ∷ is) = along_each P has_one covering access own each is
along_each P has_one covering access own each (Back e k ∷ is) = along_each P has_one covering access own each is

-- at most one for each run
pub few_accesses : (w : Setting) (n : Reading) (g : Grips) (d : ℕ) (s : LineageState) → LineageIsKept (point w n g) d s → IsDisciplined s.accesses → length s.accesses ≤ length w.runs
few_accesses w n g d s kept disciplined =
    few_runs (length w.runs) s.accesses disciplined.one_each
    (subst (AllByRecursion (IsOneOf (length w.runs))) (sym kept.accesses)
    (along_each (λ r. (0 < r) × (r ≤ length w.runs)) (uses w n d) (commits_write n d) (access_read (point w n g) kept.passed d) (λ r. refl) (λ r used. run_there w.runs r d (touched r used)) n.line))
  where
    touched : (r : ℕ) → uses w n d r ≡ true → touches w.runs r d ≡ true
    touched r used = grind (arith, common_steps)
