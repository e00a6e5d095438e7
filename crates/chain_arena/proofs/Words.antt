-- The words on a chain's pairs.
use Rattle.chain_arena.proofs.Prelude.{AreApart, Knot, List, None, Some, [], ap, arith, common_steps, false, from_knot, has_knot, if◌then◌else◌, inl, inr, is_at, is_some, length, ne_eqb, put_before, refl, subst, sym, true, true≢false, value_at, without, ℕ, ◌+◌, ◌||◌, ◌∙◌, ◌∷◌, ◌≡◌, ◌≢◌, ◌⊎◌}
use Rattle.std.proofs.Common.{◌++◌}
use Rattle.std.proofs.lemmas.Bool.Decides.{eqb_tells}

module _ {T : Type 0} where
  -- the pair has the knot, or it has another
  pub at_tells : (k : ℕ) (p : Knot × T) → ((is_at k p ≡ true) × (p.0.0 ≡ k)) ⊎ ((is_at k p ≡ false) × (p.0.0 ≢ k))
  at_tells k p = eqb_tells p.0.0 k

  pub not_at : (k : ℕ) (p : Knot × T) → p.0.0 ≢ k → is_at k p ≡ false
  not_at k p n = ne_eqb p.0.0 k n

  pub put_here : (r : ℕ) (q p : Knot × T) (ps : List (Knot × T)) → is_at r p ≡ true → put_before r q (p ∷ ps) ≡ q ∷ p ∷ ps
  put_here r q p ps e = ap (λ b. if b then (q ∷ p ∷ ps) else (p ∷ put_before r q ps)) e

  pub put_past : (r : ℕ) (q p : Knot × T) (ps : List (Knot × T)) → is_at r p ≡ false → put_before r q (p ∷ ps) ≡ p ∷ put_before r q ps
  put_past r q p ps e = ap (λ b. if b then (q ∷ p ∷ ps) else (p ∷ put_before r q ps)) e

  pub value_here : (k : ℕ) (p : Knot × T) (ps : List (Knot × T)) → is_at k p ≡ true → value_at k (p ∷ ps) ≡ Some p.1
  value_here k p ps e = ap (λ b. if b then Some p.1 else value_at k ps) e

  pub value_past : (k : ℕ) (p : Knot × T) (ps : List (Knot × T)) → is_at k p ≡ false → value_at k (p ∷ ps) ≡ value_at k ps
  value_past k p ps e = ap (λ b. if b then Some p.1 else value_at k ps) e

  pub from_here : (k : ℕ) (p : Knot × T) (ps : List (Knot × T)) → is_at k p ≡ true → from_knot k (p ∷ ps) ≡ p ∷ ps
  from_here k p ps e = ap (λ b. if b then (p ∷ ps) else from_knot k ps) e

  pub from_past : (k : ℕ) (p : Knot × T) (ps : List (Knot × T)) → is_at k p ≡ false → from_knot k (p ∷ ps) ≡ from_knot k ps
  from_past k p ps e = ap (λ b. if b then (p ∷ ps) else from_knot k ps) e

  pub has_is : (k : ℕ) (ps : List (Knot × T)) → has_knot k ps ≡ is_some (value_at k ps)
  has_is k [] = refl
  has_is k (p ∷ ps) = grind (arith, common_steps, has_is k ps)

  pub value_put_same : (r k : ℕ) (x : T) (q : Knot × T) (ps : List (Knot × T)) → has_knot k ps ≡ false → is_at k q ≡ true → value_at k (put_before r q ps) ≡ Some q.1
  value_put_same r k x q [] e h = grind (arith, common_steps)
  value_put_same r k x q (p ∷ ps) e h = grind (arith, common_steps, value_put_same r k x q ps)

  pub value_put_other : (r j : ℕ) (q : Knot × T) (ps : List (Knot × T)) → is_at j q ≡ false → value_at j (put_before r q ps) ≡ value_at j ps
  value_put_other r j q [] h = grind (arith, common_steps)
  value_put_other r j q (p ∷ ps) h = grind (arith, common_steps, value_put_other r j q ps)

  pub has_put : (r j : ℕ) (q : Knot × T) (ps : List (Knot × T)) → has_knot j (put_before r q ps) ≡ (is_at j q || has_knot j ps)
  has_put r j q [] = grind (arith, common_steps)
  has_put r j q (p ∷ ps) = grind (arith, common_steps, has_put r j q ps)

  pub length_put : (r : ℕ) (q : Knot × T) (ps : List (Knot × T)) → length (put_before r q ps) ≡ length ps + 1
  length_put r q [] = refl
  length_put r q (p ∷ ps) = grind (arith, common_steps, length_put r q ps)

  pub put_last : (r : ℕ) (q : Knot × T) (ps : List (Knot × T)) → has_knot r ps ≡ false → put_before r q ps ≡ ps ++ q ∷ []
  put_last r q [] e = refl
  put_last r q (p ∷ ps) e = grind (arith, common_steps, put_last r q ps)

  pub apart_put : (r : ℕ) (q : Knot × T) (ps : List (Knot × T)) → AreApart ps → has_knot q.0.0 ps ≡ false → AreApart (put_before r q ps)
  apart_put r q [] a n = (refl, tt)
  apart_put r q (p ∷ ps) a n = elim (at_tells r p) [
    | inl here ↦ subst AreApart (sym (put_here r q p ps here.0)) (n, a)
    | inr past ↦ subst AreApart (sym (put_past r q p ps past.0)) (head, apart_put r q ps a.1 (grind (arith, common_steps)))
  ]
    where
      head : has_knot p.0.0 (put_before r q ps) ≡ false
      head = has_put r p.0.0 q ps ∙ grind (arith, common_steps, a.0, n)

  pub value_without_same : (k : ℕ) (ps : List (Knot × T)) → value_at k (without k ps) ≡ None
  value_without_same k [] = refl
  value_without_same k (p ∷ ps) = grind (arith, common_steps, value_without_same k ps)

  pub value_without_other : (k j : ℕ) (ps : List (Knot × T)) → k ≢ j → value_at j (without k ps) ≡ value_at j ps
  value_without_other k j [] n = refl
  value_without_other k j (p ∷ ps) n = grind (arith, common_steps, n, value_without_other k j ps n)

  pub without_none : (k : ℕ) (ps : List (Knot × T)) → has_knot k ps ≡ false → without k ps ≡ ps
  without_none k [] e = refl
  without_none k (p ∷ ps) e = grind (arith, common_steps, without_none k ps)

  pub has_without : (k j : ℕ) (ps : List (Knot × T)) → has_knot j ps ≡ false → has_knot j (without k ps) ≡ false
  has_without k j [] e = refl
  has_without k j (p ∷ ps) e = grind (arith, common_steps, has_without k j ps)

  pub without_here : (k : ℕ) (p : Knot × T) (ps : List (Knot × T)) → is_at k p ≡ true → AreApart (p ∷ ps) → without k (p ∷ ps) ≡ ps
  without_here k p ps e a = grind (arith, common_steps) ∙ without_none k ps (subst (λ j. has_knot j ps ≡ false) (elim (at_tells k p) [ inl h ↦ h.1 | inr h ↦ absurd (true≢false (sym e ∙ h.0)) ]) a.0)

  pub without_past : (k : ℕ) (p : Knot × T) (ps : List (Knot × T)) → is_at k p ≡ false → without k (p ∷ ps) ≡ p ∷ without k ps
  without_past k p ps e = grind (arith, common_steps)

  pub apart_without : (k : ℕ) (ps : List (Knot × T)) → AreApart ps → AreApart (without k ps)
  apart_without k [] a = tt
  apart_without k (p ∷ ps) a = elim (at_tells k p) [
    | inl here ↦ subst AreApart (sym (without_here k p ps here.0 a)) a.1
    | inr past ↦ subst AreApart (sym (without_past k p ps past.0)) (has_without k p.0.0 ps a.0, apart_without k ps a.1)
  ]

  pub length_without : (k : ℕ) (ps : List (Knot × T)) → AreApart ps → has_knot k ps ≡ true → length (without k ps) + 1 ≡ length ps
  length_without k [] a h = absurd (true≢false (sym h))
  length_without k (p ∷ ps) a h = elim (at_tells k p) [
    | inl here ↦ ap (λ l. length l + 1) (without_here k p ps here.0 a) ∙ omega arith
    | inr past ↦ ap (λ l. length l + 1) (without_past k p ps past.0) ∙ omega (arith, length_without k ps a.1 (grind (arith, common_steps)))
  ]

  -- a knot that is there is none that is not
  pub differ : (j k : ℕ) (ps : List (Knot × T)) → has_knot j ps ≡ true → has_knot k ps ≡ false → j ≢ k
  differ j k ps h n e = true≢false (sym h ∙ ap (λ i. has_knot i ps) e ∙ n)
