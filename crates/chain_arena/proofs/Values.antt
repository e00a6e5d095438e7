-- The value at a knot is written.
use Rattle.chain_arena.proofs.Chains.{free_same, has_value, is_filled, linked}
use Rattle.chain_arena.proofs.Joins.{same_links}
use Rattle.chain_arena.proofs.Places.{place_kept, same_in, set_past, which, written}
use Rattle.chain_arena.proofs.Words.{at_tells, not_at, value_past}
use Rattle.chain_arena.proofs.Prelude.{AreApart, IsChain, IsLinked, Joined, Knot, Links, List, Node, None, Some, [], ap, arith, common_steps, false, has_knot, if◌then◌else◌, inl, inr, is_at, left, left_in, length, length-set, nil, pairs_of, refl, right, right_in, set_value, slice_get, suc, sym, true, true≢false, value, value_at, value_in, with_value, ℕ, ◌==◌, ◌||◌, ◌∙◌, ◌∷◌, ◌≡◌, ◌≢◌}

module _ {T : Type 0} (k : ℕ) (w : T) where
  has_set : (j : ℕ) (ps : List (Knot × T)) → has_knot j (set_value k w ps) ≡ has_knot j ps
  has_set j [] = refl
  has_set j (p ∷ ps) = ap (λ b. is_at j p || b) (has_set j ps)

  apart_set : (ps : List (Knot × T)) → AreApart ps → AreApart (set_value k w ps)
  apart_set [] a = tt
  apart_set (p ∷ ps) a = (has_set p.0.0 ps ∙ a.0, apart_set ps a.1)

  length_set : (ps : List (Knot × T)) → length (set_value k w ps) ≡ length ps
  length_set [] = refl
  length_set (p ∷ ps) = ap suc (length_set ps)

  joined_set : (r l : ℕ → ℕ) (a : ℕ) (ps : List (Knot × T)) → Joined r l a ps → Joined r l a (set_value k w ps)
  joined_set r l a [] h = h
  joined_set r l a (p ∷ ps) h = (h.0, h.1, joined_set r l p.0.0 ps h.2)

  value_set_same : (ps : List (Knot × T)) → has_knot k ps ≡ true → value_at k (set_value k w ps) ≡ Some w
  value_set_same [] h = absurd (true≢false (sym h))
  value_set_same (p ∷ ps) h = grind (arith, common_steps, value_set_same ps)

  value_set_other : (j : ℕ) (ps : List (Knot × T)) → j ≢ k → value_at j (set_value k w ps) ≡ value_at j ps
  value_set_other j [] n = refl
  value_set_other j (p ∷ ps) n = elim (at_tells j p) [
    | inl here ↦
        let past : is_at k p ≡ false = not_at k p (λ e. n (sym here.1 ∙ e)) in
        ap (λ b. if b then Some (if is_at k p then w else p.1) else value_at j (set_value k w ps)) here.0 ∙ ap (λ b. Some (if b then w else p.1)) past ∙ sym (ap (λ b. if b then Some p.1 else value_at j ps) here.0)
    | inr past ↦
        ap (λ b. if b then Some (if is_at k p then w else p.1) else value_at j (set_value k w ps)) past.0 ∙ value_set_other j ps n ∙ sym (value_past j p ps past.0)
  ]

  pub set_chain : (s : Links T) (ps : List (Knot × T)) → IsChain s ps → has_knot k ps ≡ true → IsChain (with_value s k w) (set_value k w ps)
  set_chain s ps h there =
      let own = is_filled s ps h k there in
      let old = own.0 in
      let m : Node T = record { left = left_in (slice_get s.block.items k); right = right_in (slice_get s.block.items k); value = Some w } in
      let t = with_value s k w in
      let size : length t.block.items ≡ length s.block.items = length-set s.block.items k m in
      let lefts : (j : ℕ) → left t j ≡ left s j = λ j. ap (λ x. if j == nil then s.last else x) (same_in s k old m own.1 left_in (ap left_in own.1) j) in
      let rights : (j : ℕ) → right t j ≡ right s j = λ j. ap (λ x. if j == nil then s.first else x) (same_in s k old m own.1 right_in (ap right_in own.1) j) in
      let others : (j : ℕ) → j ≢ k → value t j ≡ value s j = λ j jk. ap value_in (set_past s.block.items k j m jk) in
      let held = has_value s ps h k there in
      record {
        few = omega (arith, size, h.few);
        values = λ j. elim (which j k) [
          | inl is ↦ ap (value t) is ∙ ap value_in (written s k old m own.1) ∙ sym (value_set_same ps there) ∙ ap (λ i. value_at i (set_value k w ps)) (sym is)
          | inr jk ↦ others j jk ∙ h.values j ∙ sym (value_set_other j ps jk)
        ];
        apart = apart_set ps h.apart;
        joined = joined_set (right t) (left t) nil ps (same_links (right s) (left s) (right t) (left t) nil ps h.joined (λ j on. rights j) (λ j on. lefts j));
        free = free_same s t (λ j f v.
            let jk : j ≢ k = λ e. none_some held.0 (sym v ∙ ap (value s) e ∙ held.1) in
            (place_kept s.block.items t.block.items j size f, others j jk ∙ v, rights j)) s.spare s.free h.free;
        size = omega (arith, length_set ps, h.size, size);
      }
    where
      none_some : (x : T) → None ≡ Some x → ⊥
      none_some x e = cc

  pub set_done : (s : Links T) → IsLinked s → has_knot k (pairs_of s) ≡ true → IsLinked (with_value s k w) × (pairs_of (with_value s k w) ≡ set_value k w (pairs_of s))
  set_done s h there = linked (with_value s k w) (set_value k w (pairs_of s)) (set_chain s (pairs_of s) h there)
