-- The pair behind a knot.
use Rattle.chain_arena.proofs.Chains.{no_nil, right_on, some_of}
use Rattle.chain_arena.proofs.Places.{which}
use Rattle.chain_arena.proofs.Words.{at_tells, differ, from_here, from_past, not_at, value_here, value_past}
use Rattle.chain_arena.proofs.Prelude.{AreApart, IsCursor, IsLinked, Joined, Knot, Links, List, None, Some, [], ap, ap₂, arith, common_steps, false, from_knot, has_knot, if◌then◌else◌, inl, inr, is_at, knot, knot_at, left, ne_eqb, nil, pairs_of, refl, rest_of, right, right_in, slice_get, subst, sym, true, true≢false, value_at, ℕ, ◌||◌, ◌∙◌, ◌∷◌, ◌≡◌, ◌≢◌}

some_same : {X : Type 0} (x y : X) → Some x ≡ Some y → x ≡ y
some_same x y e = cc

module _ {T : Type 0} where
  -- behind the pair of k stands that of the place to its right, or none at `nil`
  pub record NextIs (ps : List (Knot × T)) (k next : ℕ) (x : T) : Type 0 where
    pub last : next ≡ nil → from_knot k ps ≡ (knot k, x) ∷ []
    pub there : next ≢ nil → has_knot next ps ≡ true
    pub more : next ≢ nil → from_knot k ps ≡ (knot k, x) ∷ from_knot next ps

  pair_is : (k : ℕ) (p : Knot × T) (ps : List (Knot × T)) (x : T) → is_at k p ≡ true → p.0.0 ≡ k → value_at k (p ∷ ps) ≡ Some x → p ≡ (knot k, x)
  pair_is k p ps x here is v = ap₂ (λ j y. (knot j, y)) is (some_same p.1 x (sym (value_here k p ps here) ∙ v))

  pub next_is : (r l : ℕ → ℕ) (a : ℕ) (ps : List (Knot × T)) (k : ℕ) (x : T) → Joined r l a ps → AreApart ps → has_knot nil ps ≡ false → has_knot k ps ≡ true → value_at k ps ≡ Some x → NextIs ps k (r k) x
  next_is r l a [] k x h ap' nn w v = absurd (true≢false (sym w))
  next_is r l a (p ∷ []) k x h ap' nn w v = elim (at_tells k p) [
    | inl here ↦
        let end : r k ≡ nil = ap r (sym here.1) ∙ h.2.0 in
        record { last = λ e. from_here k p [] here.0 ∙ ap (λ q. q ∷ []) (pair_is k p [] x here.0 here.1 v); there = λ n. absurd (n end); more = λ n. absurd (n end) }
    | inr past ↦ absurd (true≢false (sym w ∙ grind (arith, common_steps, past.0)))
  ]
  next_is r l a (p ∷ q ∷ ps) k x h ap' nn w v = elim (at_tells k p) [
    | inl here ↦
        let next : r k ≡ q.0.0 = ap r (sym here.1) ∙ h.2.0 in
        let own : is_at q.0.0 q ≡ true = elim (at_tells q.0.0 q) [ inl y ↦ y.0 | inr y ↦ absurd (y.1 refl) ] in
        let has_q : has_knot q.0.0 (q ∷ ps) ≡ true = ap (λ b. b || has_knot q.0.0 ps) own in
        let past_p : is_at q.0.0 p ≡ false = not_at q.0.0 p (λ e. differ q.0.0 p.0.0 (q ∷ ps) has_q ap'.0 (sym e)) in
        let rest : from_knot q.0.0 (p ∷ q ∷ ps) ≡ q ∷ ps = from_past q.0.0 p (q ∷ ps) past_p ∙ from_here q.0.0 q ps own in
        let has_q_in : has_knot q.0.0 (p ∷ q ∷ ps) ≡ true = ap (λ b. b || has_knot q.0.0 (q ∷ ps)) past_p ∙ has_q in
        record {
          last = λ e. absurd (true≢false (sym has_q_in ∙ ap (λ j. has_knot j (p ∷ q ∷ ps)) (sym next ∙ e) ∙ nn));
          there = λ n. ap (λ j. has_knot j (p ∷ q ∷ ps)) next ∙ has_q_in;
          more = λ n. from_here k p (q ∷ ps) here.0 ∙ ap (λ o. o ∷ q ∷ ps) (pair_is k p (q ∷ ps) x here.0 here.1 v) ∙ ap (λ l. (knot k, x) ∷ l) (sym rest ∙ ap (λ j. from_knot j (p ∷ q ∷ ps)) (sym next));
        }
    | inr past ↦
        let i = next_is r l p.0.0 (q ∷ ps) k x h.2 ap'.1 (grind (arith, common_steps, nn)) (grind (arith, common_steps, w, past.0)) (sym (value_past k p (q ∷ ps) past.0) ∙ v) in
        let skip = from_past k p (q ∷ ps) past.0 in
        record {
          last = λ e. skip ∙ i.last e;
          there = λ n. grind (arith, common_steps, i.there n);
          more = λ n. skip ∙ i.more n ∙ ap (λ l. (knot k, x) ∷ l) (sym (from_past (r k) p (q ∷ ps) (not_at (r k) p (λ e. differ (r k) p.0.0 (q ∷ ps) (i.there n) ap'.0 (sym e)))));
        }
  ]

  next_of : (s : Links T) (ps : List (Knot × T)) (k next : ℕ) (x : T) → IsLinked s → pairs_of s ≡ ps → has_knot k ps ≡ true → value_at k ps ≡ Some x → next ≡ right s k → NextIs ps k next x
  next_of s ps k next x h e w v is =
      subst (λ l. NextIs l k next x) e (subst (λ j. NextIs (pairs_of s) k j x) (sym is) (next_is (right s) (left s) nil (pairs_of s) k x h.joined h.apart (no_nil s (pairs_of s) h)
      (ap (has_knot k) e ∙ w) (ap (value_at k) e ∙ v)))

  -- the link of the node that has a pair is the one along the chain
  on_right : (s : Links T) (ps : List (Knot × T)) (k next : ℕ) → IsLinked s → pairs_of s ≡ ps → has_knot k ps ≡ true → next ≡ right_in (slice_get s.block.items k) → next ≡ right s k
  on_right s ps k next h e w is = is ∙ sym (right_on s k h (ap (has_knot k) e ∙ w))

  pub cursor_behind : (s : Links T) (ps : List (Knot × T)) (k next : ℕ) → IsLinked s → pairs_of s ≡ ps → has_knot k ps ≡ true → next ≡ right_in (slice_get s.block.items k) → IsCursor (knot_at next) ps
  cursor_behind s ps k next h e w is = elim (which next nil) [
    | inl end ↦ subst (λ j. IsCursor (knot_at j) ps) (sym end) tt
    | inr more ↦
        let x = some_of k ps w in
        subst (λ b. IsCursor (if b then None else Some (knot next)) ps) (sym (ne_eqb next nil more)) ((next_of s ps k next x.0 h e w x.1 (on_right s ps k next h e w is)).there more)
  ]

  pub next_behind : (s : Links T) (ps : List (Knot × T)) (k : Knot) (next : ℕ) (x : T) → IsLinked s → pairs_of s ≡ ps → has_knot k.0 ps ≡ true → value_at k.0 ps ≡ Some x
      → next ≡ right_in (slice_get s.block.items k.0) → from_knot k.0 ps ≡ (k, x) ∷ rest_of (knot_at next) ps
  next_behind s ps k next x h e w v is =
      let found = next_of s ps k.0 next x h e w v (on_right s ps k.0 next h e w is) in
      elim (which next nil) [
        | inl end ↦ found.last end ∙ ap (λ j. (k, x) ∷ rest_of (knot_at j) ps) (sym end)
        | inr more ↦ found.more more ∙ ap (λ b. (k, x) ∷ rest_of (if b then None else Some (knot next)) ps) (sym (ne_eqb next nil more))
      ]
