-- The first pair leaves.
use Rattle.chain_arena.proofs.Words.{at_tells, from_past, without_here}
use Rattle.chain_arena.proofs.Prelude.{AreApart, Joined, Knot, List, [], ap, arith, common_steps, false, from_knot, has_knot, inl, inr, is_at, length, nil, sym, true, true≢false, without, ℕ, ◌+◌, ◌||◌, ◌∙◌, ◌∷◌, ◌≡◌, ◌≢◌}

module _ {T : Type 0} where
  pub record HeadGone (ps : List (Knot × T)) (f k : ℕ) : Type 0 where
    pub there : has_knot f ps ≡ true
    pub still : has_knot k (without f ps) ≡ true
    pub same : from_knot k (without f ps) ≡ from_knot k ps
    pub less : length (without f ps) + 1 ≡ length ps

  pub head_gone : (r l : ℕ → ℕ) (ps : List (Knot × T)) (f k : ℕ) → Joined r l nil ps → r nil ≡ f → AreApart ps → has_knot k ps ≡ true → f ≢ k → HeadGone ps f k
  head_gone r l [] f k h e a w n = absurd (true≢false (sym w))
  head_gone r l (p ∷ ps) f k h e a w n =
      let is : p.0.0 ≡ f = sym h.0 ∙ e in
      let here : is_at f p ≡ true = elim (at_tells f p) [ inl y ↦ y.0 | inr no_here ↦ absurd (no_here.1 is) ] in
      let past : is_at k p ≡ false = elim (at_tells k p) [ inl y ↦ absurd (n (sym is ∙ y.1)) | inr y ↦ y.0 ] in
      let gone = without_here f p ps here a in
      record {
        there = ap (λ b. b || has_knot f ps) here;
        still = ap (has_knot k) gone ∙ grind (arith, common_steps, w, past);
        same = ap (from_knot k) gone ∙ sym (from_past k p ps past);
        less = ap (λ l. length l + 1) gone ∙ omega arith;
      }
