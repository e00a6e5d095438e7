-- The words on accesses, where the list is cut at a run's access.
use Rattle.lineage_table.proofs.Prelude.{Access, List, None, Released, Some, [], access_of, accesses_before, accesses_behind, accesses_without, ap, arith, common_steps, false, get_or, has_access, is_of, length, or_from, position, put_before_run, refl, run_no, suc, true, with_change, zero, ℕ, ◌++◌, ◌<◌, ◌∷◌, ◌≡◌}
use Rattle.std.proofs.lemmas.List.Quantifiers.{position-Some}

abbrev pub any_access : Access
any_access = record { run = run_no 0; status = Released; view = None; wrote = None; from = 0; to = 0 }

-- a list cut at the first access of the run, which stands at the place i
pub record Cut (r i : ℕ) (xs : List Access) : Type 0 where
  pub front : List Access
  pub access : Access
  pub rest : List Access
  pub list : xs ≡ front ++ access ∷ rest
  pub size : length front ≡ i
  pub none : has_access r front ≡ false
  pub own : is_of r access ≡ true

cut_from : (r i : ℕ) (xs : List Access) (d : Access) → i < length xs → is_of r (get_or xs i d) ≡ true → ((k : ℕ) → k < i → is_of r (get_or xs k d) ≡ false) → Cut r i xs
cut_from r i [] d p h n = absurd (omega arith)
cut_from r zero (x ∷ xs) d p h n = record { front = []; access = x; rest = xs; list = refl; size = refl; none = refl; own = h }
cut_from r (suc i) (x ∷ xs) d p h n =
    let c = cut_from r i xs d (omega arith) h (λ k q. n (suc k) (omega arith)) in
    record {
      front = x ∷ c.front;
      access = c.access;
      rest = c.rest;
      list = ap (λ l. x ∷ l) c.list;
      size = omega (arith, c.size);
      none = or_from (is_of r x) (has_access r c.front) (n 0 (omega arith)) c.none;
      own = c.own;
    }

-- the list is cut at the place of the run's access
pub cut_at : (r i : ℕ) (xs : List Access) (d : Access) → position (is_of r) xs ≡ Some i → Cut r i xs
cut_at r i xs d h = let p = position-Some (is_of r) xs i d h in cut_from r i xs d p.0 p.1 p.2

pub access_at : (r : ℕ) (a : List Access) (x : Access) (b : List Access) → has_access r a ≡ false → is_of r x ≡ true → access_of r (a ++ x ∷ b) ≡ Some x
access_at r [] x b n o = grind (arith, common_steps)
access_at r (y ∷ a) x b n o = grind (arith, common_steps, access_at r a x b)

pub change_at : (r : ℕ) (f : Access → Access) (a : List Access) (x : Access) (b : List Access) → has_access r a ≡ false → is_of r x ≡ true → with_change r f (a ++ x ∷ b) ≡ a ++ f x ∷ b
change_at r f [] x b n o = grind (arith, common_steps)
change_at r f (y ∷ a) x b n o = grind (arith, common_steps, change_at r f a x b)

pub put_at : (r : ℕ) (z : Access) (a : List Access) (x : Access) (b : List Access) → has_access r a ≡ false → is_of r x ≡ true → put_before_run r z (a ++ x ∷ b) ≡ a ++ z ∷ x ∷ b
put_at r z [] x b n o = grind (arith, common_steps)
put_at r z (y ∷ a) x b n o = grind (arith, common_steps, put_at r z a x b)

pub behind_at : (r : ℕ) (a : List Access) (x : Access) (b : List Access) → has_access r a ≡ false → is_of r x ≡ true → accesses_behind r (a ++ x ∷ b) ≡ b
behind_at r [] x b n o = grind (arith, common_steps)
behind_at r (y ∷ a) x b n o = grind (arith, common_steps, behind_at r a x b)

pub before_at : (r : ℕ) (a : List Access) (x : Access) (b : List Access) → has_access r a ≡ false → is_of r x ≡ true → accesses_before r (a ++ x ∷ b) ≡ a
before_at r [] x b n o = grind (arith, common_steps)
before_at r (y ∷ a) x b n o = grind (arith, common_steps, before_at r a x b)

pub without_none : (r : ℕ) (a : List Access) → has_access r a ≡ false → accesses_without r a ≡ a
without_none r [] n = refl
without_none r (y ∷ a) n = grind (arith, common_steps, without_none r a)

pub without_at : (r : ℕ) (a : List Access) (x : Access) (b : List Access) → has_access r a ≡ false → has_access r b ≡ false → is_of r x ≡ true → accesses_without r (a ++ x ∷ b) ≡ a ++ b
without_at r [] x b n m o = grind (arith, common_steps, without_none r b)
without_at r (y ∷ a) x b n m o = grind (arith, common_steps, without_at r a x b)
