-- Which runs have an access, as the accesses to a device change.
use Rattle.home_types.specs.declared.commands.View.{View}
use Rattle.lineage_table.proofs.Prelude.{Access, AreOfTwoRuns, Bool, IsDisciplined, IsTrue, LineageState, List, None, Option, RunNo, Some, [], access_of, accesses_before, accesses_behind, accesses_without, and_right, ap, arith, common_steps, false, get_or, has_access, if◌then◌else◌, is_of, is_some, length, not, put_access_before, put_before_run, refl, sym, take, true, with_change, ℕ, ◌&&◌, ◌++◌, ◌+◌, ◌<◌, ◌==◌, ◌||◌, ◌∙◌, ◌∷◌, ◌≡◌}
use Rattle.lineage_table.proofs.DeviceCounts.{any_next}
use Rattle.lineage_table.proofs.Keeping.{none_behind}
use Rattle.lineage_table.proofs.Pairs.{Pairs, pairs_from_all}
use Rattle.lineage_table.specs.Answers.{answered_access, answered_if}

-- an access is changed, and stays its run's
pub change_has : (q r : ℕ) (f : Access → Access) (xs : List Access) → ((x : Access) → (f x).run.0 ≡ x.run.0) → has_access q (with_change r f xs) ≡ has_access q xs
change_has q r f [] stays = refl
change_has q r f (x ∷ xs) stays = at_ (is_of r x) (change_has q r f xs stays)
  where
    at_ : (b : Bool) → has_access q (with_change r f xs) ≡ has_access q xs → has_access q (if b then (f x ∷ xs) else (x ∷ with_change r f xs)) ≡ (is_of q x || has_access q xs)
    at_ true rest = ap (λ k. (k == q) || has_access q xs) (stays x)
    at_ false rest = ap (λ b. is_of q x || b) rest

-- a run notes an answer
pub answered_has : (q r : ℕ) (noted : Bool) (view : View) (wrote : Option ℕ) (last : Bool) (s : LineageState) → has_access q (answered_if noted r view wrote last s).accesses ≡ has_access q s.accesses
answered_has q r true view wrote last s = change_has q r (answered_access view wrote last) s.accesses (λ x. refl)
answered_has q r false view wrote last s = refl

swap : (a b c : Bool) → (a || (b || c)) ≡ (b || (a || c))
swap true true c = refl
swap true false c = refl
swap false b c = refl

same_run : (q : ℕ) (y : Access) → is_of q y ≡ (q == y.run.0)
same_run q y = turn y.run.0 q
  where
    turn : (a b : ℕ) → (a == b) ≡ (b == a)
    turn a b = grind (arith, common_steps)

-- an access is put in
put_run_has : (q r : ℕ) (y : Access) (xs : List Access) → has_access q (put_before_run r y xs) ≡ (is_of q y || has_access q xs)
put_run_has q r y [] = refl
put_run_has q r y (x ∷ xs) = at_ (is_of r x) (put_run_has q r y xs)
  where
    at_ : (b : Bool) → has_access q (put_before_run r y xs) ≡ (is_of q y || has_access q xs) → has_access q (if b then (y ∷ x ∷ xs) else (x ∷ put_before_run r y xs)) ≡ (is_of q y || (is_of q x || has_access q xs))
    at_ true rest = refl
    at_ false rest = ap (λ b. is_of q x || b) rest ∙ swap (is_of q x) (is_of q y) (has_access q xs)

last_has : (q : ℕ) (y : Access) (xs : List Access) → has_access q (xs ++ y ∷ []) ≡ (is_of q y || has_access q xs)
last_has q y [] = refl
last_has q y (x ∷ xs) = ap (λ b. is_of q x || b) (last_has q y xs) ∙ swap (is_of q x) (is_of q y) (has_access q xs)

pub put_has : (q : ℕ) (before : Option RunNo) (y : Access) (xs : List Access) → has_access q (put_access_before before y xs) ≡ ((q == y.run.0) || has_access q xs)
put_has q None y xs = last_has q y xs ∙ ap (λ b. b || has_access q xs) (same_run q y)
put_has q (Some r) y xs = put_run_has q r.0 y xs ∙ ap (λ b. b || has_access q xs) (same_run q y)

-- the access of a run is taken out
pub without_has : (q r : ℕ) (xs : List Access) → has_access q (accesses_without r xs) ≡ (not (q == r) && has_access q xs)
without_has q r [] = none (q == r)
  where
    none : (b : Bool) → false ≡ (not b && false)
    none true = refl
    none false = refl
without_has q r (x ∷ xs) = at_ (is_of r x) refl (without_has q r xs)
  where
    other : (k a b : ℕ) → (k == b) ≡ true → (k == a) ≡ (a == b)
    other k a b e = grind (arith, common_steps)

    kept : (k a b : ℕ) → (k == b) ≡ false → (k == a) ≡ true → (a == b) ≡ false
    kept k a b e f = grind (arith, common_steps)

    gone : (a b : Bool) → (not a && b) ≡ (not a && (a || b))
    gone true b = refl
    gone false b = refl

    stays : (a b c : Bool) → (b ≡ true → a ≡ false) → (b || (not a && c)) ≡ (not a && (b || c))
    stays a true c h = ap (λ x. true || (not x && c)) (h refl) ∙ sym (ap (λ x. not x && (true || c)) (h refl))
    stays a false c h = refl

    at_ : (b : Bool) → is_of r x ≡ b → has_access q (accesses_without r xs) ≡ (not (q == r) && has_access q xs) → has_access q (if not b then (x ∷ accesses_without r xs) else accesses_without r xs) ≡ (not (q == r) && (is_of q x || has_access q xs))
    at_ true e rest = rest ∙ gone (q == r) (has_access q xs) ∙ ap (λ b. not (q == r) && (b || has_access q xs)) (sym (other x.run.0 q r e))
    at_ false e rest = ap (λ b. is_of q x || b) rest ∙ stays (q == r) (is_of q x) (has_access q xs) (λ f. kept x.run.0 q r e f)

-- one access further
pub take_has : (q : ℕ) (i : ℕ) (xs : List Access) (d : Access) → i < length xs → has_access q (take (i + 1) xs) ≡ (has_access q (take i xs) || (q == (get_or xs i d).run.0))
take_has q i xs d within = any_next (is_of q) xs i d within ∙ ap (λ b. has_access q (take i xs) || b) (same_run q (get_or xs i d))

-- a run has an access where one is found
pub found_has : (r : ℕ) (xs : List Access) → has_access r xs ≡ is_some (access_of r xs)
found_has r [] = refl
found_has r (x ∷ xs) = at_ (is_of r x) (found_has r xs)
  where
    at_ : (b : Bool) → has_access r xs ≡ is_some (access_of r xs) → (b || has_access r xs) ≡ is_some (if b then Some x else access_of r xs)
    at_ true rest = refl
    at_ false rest = rest

-- the access of a run and those before it are gone
pub behind_has : (q r : ℕ) (xs : List Access) → IsDisciplined xs → IsTrue (has_access r xs) → has_access q (accesses_behind r xs) ≡ (not (has_access q (accesses_before r xs) || (q == r)) && has_access q xs)
unfolding Pairs
behind_has q r xs disciplined has = along xs (pairs_from_all AreOfTwoRuns xs disciplined.one_each) has
  where
    own : (k a b : ℕ) → (k == b) ≡ true → (k == a) ≡ (a == b)
    own k a b e = grind (arith, common_steps)

    one : (a b : Bool) → (a ≡ true → b ≡ false) → b ≡ (not a && (a || b))
    one true b h = h refl
    one false b h = refl

    further : (a b c d : Bool) → (a ≡ true → d ≡ false) → (not (b || c) && d) ≡ (not ((a || b) || c) && (a || d))
    further true b c d h = ap (λ x. not (b || c) && x) (h refl) ∙ and_right (not (b || c)) false refl
    further false b c d h = refl

    along : (ys : List Access) → Pairs AreOfTwoRuns ys → IsTrue (has_access r ys) → has_access q (accesses_behind r ys) ≡ (not (has_access q (accesses_before r ys) || (q == r)) && has_access q ys)
    along [] pairs has = absurd (cc)
    along (y ∷ ys) pairs has = at_ (is_of r y) refl (λ rest. along ys pairs.1 rest)
      where
        alone : is_of q y ≡ true → has_access q ys ≡ false
        alone e = none_behind q y ys e pairs.0

        at_ : (b : Bool) → is_of r y ≡ b → (IsTrue (has_access r ys) → has_access q (accesses_behind r ys) ≡ (not (has_access q (accesses_before r ys) || (q == r)) && has_access q ys))
            → has_access q (if b then ys else accesses_behind r ys) ≡ (not (has_access q (if b then [] else (y ∷ accesses_before r ys)) || (q == r)) && (is_of q y || has_access q ys))
        at_ true e rest = one (is_of q y) (has_access q ys) alone ∙ ap (λ b. not b && (is_of q y || has_access q ys)) (own y.run.0 q r e)
        at_ false e rest = rest (grind (arith, common_steps)) ∙ further (is_of q y) (has_access q (accesses_before r ys)) (q == r) (has_access q ys) alone
