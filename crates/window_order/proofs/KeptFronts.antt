-- Where the items of a set are brought before the others, those that are sealed stay in front.
use Rattle.command_rules.specs.ClosedSets.{HoldsFirst, chosen, others, rearranged}
use Rattle.window_order.proofs.Prelude.{Bool, List, Mark, [], arith, false, front_of, if◌then◌else◌, is_open_run, suc, true, zero, ℕ, ◌+◌, ◌∷◌, ◌≤◌}

-- no fewer items stand before the first live run
pub front_rearranged : (set : List Bool) (ms : List Mark) (k : ℕ) → HoldsFirst k set → k ≤ front_of ms → k ≤ front_of (rearranged set ms)
unfolding chosen others
front_rearranged set ms zero first upto = omega arith
front_rearranged [] ms (suc k) first upto = absurd (let none = first 0 (omega arith) in cc)
front_rearranged (b ∷ bs) [] (suc k) first upto = absurd (omega (arith, upto))
front_rearranged (false ∷ bs) (m ∷ ms) (suc k) first upto = absurd (let none = first 0 (omega arith) in cc)
front_rearranged (true ∷ bs) (m ∷ ms) (suc k) first upto = by_open (is_open_run m) upto (front_rearranged bs ms k (λ at low. first (suc at) (omega (arith, low))))
  where
    by_open : (b : Bool) → suc k ≤ (if b then 0 else front_of ms + 1) → (k ≤ front_of ms → k ≤ front_of (rearranged bs ms)) → suc k ≤ (if b then 0 else front_of (rearranged bs ms) + 1)
    by_open true none more = absurd (omega (arith, none))
    by_open false some more = let rest = more (omega (arith, some)) in omega (arith, rest)
