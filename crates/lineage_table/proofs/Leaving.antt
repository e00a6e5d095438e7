-- The sets of the runs whose accesses leave, as one goes over a chain.
use Rattle.lineage_table.proofs.Prelude.{Access, HasLess, Knot, List, [], accesses_before, ap, arith, common_steps, false, has_access, is_of, sym, true, values_of, ℕ, ◌++◌, ◌==◌, ◌||◌, ◌∙◌, ◌∷◌, ◌≡◌}
use Rattle.home_types.specs.DeviceSets.{Devices}
use Rattle.lineage_table.proofs.Knots.{before_cut, seen_has, seen_list, seen_none}
use Rattle.lineage_table.proofs.RunSets.{less_more}

same_run : (r : ℕ) (x : Access) → is_of r x ≡ true → x.run.0 ≡ r
same_run r x own = grind (arith, common_steps)

module _ (r d : ℕ) (ps front next rest : List (Knot × Access)) (q : Knot × Access) (old mid new : List Devices) (e : ps ≡ front ++ next) (f : next ≡ q ∷ rest) (none : has_access r (values_of front) ≡ false)
    (was : HasLess (λ n. has_access n (values_of front)) d old mid) (one : HasLess (λ n. n == q.1.run.0) d mid new) where
  -- one more run's access, which stands before that of the run
  pub more_leave : is_of r q.1 ≡ false → (x : List (Knot × Access)) × (ps ≡ x ++ rest) × (has_access r (values_of x) ≡ false) × HasLess (λ n. has_access n (values_of x)) d old new
  more_leave other =
      (front ++ q ∷ [], seen_list ps front next rest q e f, seen_none r front q none other, less_more (λ n. has_access n (values_of front)) (λ n. n == q.1.run.0) (λ n. has_access n (values_of (front ++ q ∷ []))) d old mid new was one (λ n. seen_has n front q))

  -- the run's own is the last one
  pub all_leave : is_of r q.1 ≡ true → HasLess (λ n. has_access n (accesses_before r (values_of ps)) || (n == r)) d old new
  all_leave own =
      less_more (λ n. has_access n (values_of front)) (λ n. n == q.1.run.0) (λ n. has_access n (accesses_before r (values_of ps)) || (n == r)) d old mid new was one
      (λ n. ap (λ l. has_access n l || (n == r)) (before_cut r ps front next rest q e f none own) ∙ ap (λ k. has_access n (values_of front) || (n == k)) (sym (same_run r q.1 own)))
