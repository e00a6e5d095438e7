-- What a step leaves of a chain.
use Rattle.chain_arena.proofs.Joins.{left_is, left_out, put_joined, right_is}
use Rattle.chain_arena.proofs.Places.{eq_false, place_kept, which, within_of}
use Rattle.chain_arena.proofs.Words.{apart_put, apart_without, at_tells, differ, has_is, length_put, length_without, not_at, value_here, value_past, value_put_other, value_put_same, value_without_other, value_without_same}
use Rattle.chain_arena.proofs.Prelude.{AreApart, Empties, Fills, IsChain, IsFree, IsLink, IsLinked, IsOn, IsPlace, Joined, Joins, Knot, Links, List, Node, None, Option, SamePlaces, Some, [], ap, arith, common_steps, false, has_knot, if◌then◌else◌, inl, inr, is_at, is_some, knot, left, length, nil, pair_then, pairs_of, put_before, refl, right, right_in, slice_get, slice_get_past, subst, suc, sym, true, true≢false, value, value_at, value_in, walk, without, zero, ℕ, ◌+◌, ◌||◌, ◌∙◌, ◌∷◌, ◌≡◌, ◌≢◌, ◌≤◌}
use Rattle.std.proofs.Common.{◌<◌}

none_some : {X : Type 0} (x : X) → None ≡ Some x → ⊥
none_some x e = cc

module _ {T : Type 0} where
  -- a place with a value is in use
  filled_of : (c : Option (Node T)) (x : T) → value_in c ≡ Some x → (n : Node T) × (c ≡ Some n)
  filled_of None x e = absurd (none_some x e)
  filled_of (Some n) x e = (n, refl)

  pub some_of : (k : ℕ) (ps : List (Knot × T)) → has_knot k ps ≡ true → (x : T) × (value_at k ps ≡ Some x)
  some_of k [] h = absurd (true≢false (sym h))
  some_of k (p ∷ ps) h = elim (at_tells k p) [
    | inl here ↦ (p.1, value_here k p ps here.0)
    | inr past ↦ let rest = some_of k ps (grind (arith, common_steps, h, past.0)) in (rest.0, value_past k p ps past.0 ∙ rest.1)
  ]

  module _ (s : Links T) (ps : List (Knot × T)) (h : IsChain s ps) where
    pub value_nil : value s nil ≡ None
    value_nil = ap value_in (slice_get_past s.block.items nil h.few)

    pub no_nil : has_knot nil ps ≡ false
    no_nil = has_is nil ps ∙ ap is_some (sym (h.values nil) ∙ value_nil)

    pub has_value : (k : ℕ) → has_knot k ps ≡ true → (x : T) × (value s k ≡ Some x)
    has_value k w = let found = some_of k ps w in (found.0, h.values k ∙ found.1)

    pub is_filled : (k : ℕ) → has_knot k ps ≡ true → IsPlace s.block.items k
    is_filled k w = let found = has_value k w in filled_of (slice_get s.block.items k) found.0 found.1

    pub is_link : (k : ℕ) → IsOn nil ps k → IsLink s k
    is_link k (inl e) = inl e
    is_link k (inr w) = inr (is_filled k w)

    pub no_knot : (k : ℕ) → value s k ≡ None → has_knot k ps ≡ false
    no_knot k e = has_is k ps ∙ ap is_some (sym (h.values k) ∙ e)

    -- a free place is neither `nil` nor on the chain
    pub free_off : (j k : ℕ) → IsOn nil ps j → IsPlace s.block.items k → value s k ≡ None → j ≢ k
    free_off j k (inl e) f v same = let within = within_of s.block.items k f in let few = h.few in omega (arith, within, few, e, same)
    free_off j k (inr w) f v same = differ j k ps w (no_knot k v) same

  -- the walk from the first place finds the pairs
  walk_nil : (s : Links T) (m k : ℕ) → k ≡ nil → value s nil ≡ None → walk s m k ≡ []
  walk_nil s zero k e v = refl
  walk_nil s (suc m) k e v = ap (λ j. pair_then j (value s j) (walk s m (right s j))) e ∙ ap (λ o. pair_then nil o (walk s m (right s nil))) v

  walk_from : (s : Links T) (m a : ℕ) (ps : List (Knot × T)) → Joined (right s) (left s) a ps → ((k : ℕ) → has_knot k ps ≡ true → value s k ≡ value_at k ps) → AreApart ps → length ps ≤ m → value s nil ≡ None
      → walk s m (right s a) ≡ ps
  walk_from s m a [] h vs ap' le v = walk_nil s m (right s a) h.0 v
  walk_from s zero a (p ∷ ps) h vs ap' le v = absurd (omega (arith, le))
  walk_from s (suc m) a (p ∷ ps) h vs ap' le v =
      let here : is_at p.0.0 p ≡ true = elim (at_tells p.0.0 p) [ inl y ↦ y.0 | inr n ↦ absurd (n.1 refl) ] in
      let own : value s p.0.0 ≡ Some p.1 = vs p.0.0 (ap (λ b. b || has_knot p.0.0 ps) here) ∙ value_here p.0.0 p ps here in
      ap (walk s (suc m)) h.0 ∙ ap (λ o. pair_then p.0.0 o (walk s m (right s p.0.0))) own
      ∙ ap (λ l. p ∷ l) (walk_from s m p.0.0 ps h.2 (λ k w. vs k (grind (arith, common_steps, w)) ∙ value_past k p ps (not_at k p (λ e. differ k p.0.0 ps w ap'.0 (sym e)))) ap'.1 (omega (arith, le)) v)

  pub walk_is : (s : Links T) (ps : List (Knot × T)) → IsChain s ps → pairs_of s ≡ ps
  walk_is s ps h =
      let few : length ps ≤ length s.block.items = omega (arith, h.size) in
      walk_from s (length s.block.items) nil ps h.joined (λ k w. h.values k) h.apart few (value_nil s ps h)

  pub linked : (s : Links T) (ps : List (Knot × T)) → IsChain s ps → IsLinked s × (pairs_of s ≡ ps)
  linked s ps h = let e = walk_is s ps h in (subst (λ l. IsChain s l) (sym e) h, e)

  -- Free places

  -- how many free places follow is settled by the first
  depth : (s : Links T) (n m i : ℕ) → length s.block.items ≤ nil → IsFree s n i → IsFree s m i → n ≡ m
  depth s zero zero i few f g = refl
  depth s zero (suc m) i few f g = absurd (omega (arith, within_of s.block.items i g.0, few, f))
  depth s (suc n) zero i few f g = absurd (omega (arith, within_of s.block.items i f.0, few, g))
  depth s (suc n) (suc m) i few f g = ap suc (depth s n m (right s i) few f.2 g.2)

  pub free_same : (s u : Links T) → ((j : ℕ) → IsPlace s.block.items j → value s j ≡ None → IsPlace u.block.items j × (value u j ≡ None) × (right u j ≡ right s j)) → (n i : ℕ) → IsFree s n i → IsFree u n i
  free_same s u keep zero i f = f
  free_same s u keep (suc n) i f = let k = keep i f.0 f.1 in (k.0, k.1, subst (IsFree u n) (sym k.2) (free_same s u keep n (right s i) f.2))

  -- the first of them is taken
  free_rest : (s u : Links T) (k m : ℕ) → length s.block.items ≤ nil → IsFree s (suc m) k
      → ((j : ℕ) → IsPlace s.block.items j → value s j ≡ None → j ≢ k → IsPlace u.block.items j × (value u j ≡ None) × (right u j ≡ right s j)) → (n i : ℕ) → n ≤ m → IsFree s n i → IsFree u n i
  free_rest s u k m few first keep zero i le f = f
  free_rest s u k m few first keep (suc n) i le f =
      let other : i ≢ k = λ e. let same = depth s (suc n) (suc m) k few (subst (IsFree s (suc n)) e f) first in omega (arith, same, le) in
      let kept = keep i f.0 f.1 other in
      (kept.0, kept.1, subst (IsFree u n) (sym kept.2) (free_rest s u k m few first keep n (right s i) (omega (arith, le)) f.2))

  first_free : (s : Links T) (n k : ℕ) → 0 < n → IsFree s n k → (m : ℕ) × (n ≡ suc m) × IsFree s (suc m) k
  first_free s zero k more f = absurd (omega (arith, more))
  first_free s (suc m) k more f = (m, refl, f)

  -- The two steps

  pub put_keeps : (s t u v : Links T) (ps : List (Knot × T)) (at k : ℕ) (x : T) → IsChain s ps → 0 < s.spare → IsOn nil ps at → Fills s t k x → Joins t u (left t at) k → Joins u v k at
      → IsChain v (put_before at (knot k, x) ps) × (has_knot k ps ≡ false) × (v.spare + 1 ≡ s.spare)
  put_keeps s t u v ps at k x h more on f one two =
      let taken = first_free s s.spare s.free more h.free in
      let m = taken.0 in
      let first : IsFree s (suc m) k = subst (IsFree s (suc m)) (sym f.was) taken.2 in
      let l = left s at in
      let same_l : left t at ≡ l = f.lefts at in
      let a : Joins t u l k = subst (λ i. Joins t u i k) same_l one in
      let found = left_is (right s) (left s) nil ps at h.joined on in
      let off : has_knot k ps ≡ false = no_knot s ps h k first.1 in
      let lk : l ≢ k = free_off s ps h l k found.1 first.0 first.1 in
      let ak : at ≢ k = free_off s ps h at k on first.0 first.1 in
      let nk : nil ≢ k = free_off s ps h nil k (inl refl) first.0 first.1 in
      let q : Knot × T = (knot k, x) in
      let rights : (j : ℕ) → j ≢ l → j ≢ k → right v j ≡ right s j = λ j jl jk. two.rights j jk ∙ a.rights j jl ∙ f.rights j in
      let spares : (v.spare ≡ t.spare) × (v.free ≡ t.free) = (two.free.1 ∙ a.free.1, two.free.0 ∙ a.free.0) in
      let less : v.spare ≡ m = omega (arith, spares.0, f.spare, taken.1) in (
        record {
          few = omega (arith, two.places, a.places, f.places, h.few);
          values = λ j. elim (which j k) [
            | inl is ↦ ap (value v) is ∙ two.values k ∙ a.values k ∙ f.at ∙ sym (value_put_same at k x q ps off (elim (at_tells k q) [ inl y ↦ y.0 | inr other ↦ absurd (other.1 refl) ])) ∙ ap (λ i. value_at i (put_before at q ps)) (sym is)
            | inr not ↦ two.values j ∙ a.values j ∙ f.values j not ∙ h.values j ∙ sym (value_put_other at j q ps (not_at j q (λ e. not (sym e))))
          ];
          apart = apart_put at q ps h.apart off;
          joined = put_joined (right s) (left s) (right v) (left v) q at l refl found.0 nk (two.rights l lk ∙ a.right_at) two.right_at rights two.left_at (two.lefts k (λ e. ak (sym e)) ∙ a.left_at)
              (λ j ja jk. two.lefts j ja ∙ a.lefts j jk ∙ f.lefts j) nil ps h.joined on nk off (no_nil s ps h) (no_nil s ps h) h.apart;
          free = subst (λ i. IsFree v v.spare i) (sym (spares.1 ∙ f.free)) (free_rest s v k m h.few first (λ j fj vj jk. (
            place_kept s.block.items v.block.items j (omega (arith, two.places, a.places, f.places)) fj,
            two.values j ∙ a.values j ∙ f.values j jk ∙ vj,
            rights j (λ e. free_off s ps h l j found.1 fj vj (sym e)) jk,
          )) v.spare (right s k) (omega (arith, less)) (subst (λ c. IsFree s c (right s k)) (sym less) first.2));
          size = omega (arith, length_put at q ps, h.size, less, taken.1, two.places, a.places, f.places);
        },
        off,
        omega (arith, less, taken.1),
      )

  -- no pair is its own neighbour
  no_self : (r l : ℕ → ℕ) (a : ℕ) (ps : List (Knot × T)) (k : ℕ) → Joined r l a ps → has_knot k ps ≡ true → a ≢ k → AreApart ps → l k ≢ k
  no_self r l a [] k h w ak ap' e = true≢false (sym w)
  no_self r l a (p ∷ ps) k h w ak ap' e = elim (at_tells k p) [
    | inl here ↦ ak (sym h.1 ∙ ap l here.1 ∙ e)
    | inr past ↦ no_self r l p.0.0 ps k h.2 (grind (arith, common_steps, w, past.0)) past.1 ap'.1 e
  ]

  pub unlink_keeps : (s t u : Links T) (ps : List (Knot × T)) (k : ℕ) (x : T) → IsChain s ps → has_knot k ps ≡ true → Joins s t (left s k) (right s k) → Empties t u k x
      → IsChain u (without k ps) × (value_at k ps ≡ Some x) × (u.spare ≡ s.spare + 1)
  unlink_keeps s t u ps k x h w one two =
      let l = left s k in
      let r = right s k in
      let nils = no_nil s ps h in
      let nk : nil ≢ k = λ e. differ k nil ps w nils (sym e) in
      let to_left = left_is (right s) (left s) nil ps k h.joined (inr w) in
      let to_right = right_is (right s) (left s) nil ps k h.joined (inr w) in
      let lk : l ≢ k = no_self (right s) (left s) nil ps k h.joined w nk h.apart in
      let rights : (j : ℕ) → j ≢ l → j ≢ k → right u j ≡ right s j = λ j jl jk. two.rights j jk ∙ one.rights j jl in
      let own = is_filled s ps h k w in
      let held = has_value s ps h k w in
      let more : suc s.spare ≡ u.spare = omega (arith, two.spare, one.free.1) in (
        record {
          few = omega (arith, two.places, one.places, h.few);
          values = λ j. elim (which j k) [
            | inl is ↦ ap (value u) is ∙ two.at ∙ sym (value_without_same k ps) ∙ ap (λ i. value_at i (without k ps)) (sym is)
            | inr not ↦ two.values j not ∙ one.values j ∙ h.values j ∙ sym (value_without_other k j ps (λ e. not (sym e)))
          ];
          apart = apart_without k ps h.apart;
          joined = left_out (right s) (left s) (right u) (left u) k l r refl refl to_left.0 to_right.0 (two.rights l lk ∙ one.right_at) rights (two.lefts r ∙ one.left_at) (λ j jr. two.lefts j ∙ one.lefts j jr)
              nil ps h.joined w nk nils nils h.apart;
          free = subst (λ c. IsFree u c u.free) more (subst (IsFree u (suc s.spare)) (sym two.free) (
            place_kept s.block.items u.block.items k (omega (arith, two.places, one.places)) own,
            two.at,
            subst (IsFree u s.spare) (sym (two.right_at ∙ one.free.0)) (free_same s u (λ j fj vj.
                let jk : j ≢ k = λ e. none_some held.0 (sym vj ∙ ap (value s) e ∙ held.1) in (
                  place_kept s.block.items u.block.items j (omega (arith, two.places, one.places)) fj,
                  two.values j jk ∙ one.values j ∙ vj,
                  rights j (λ e. free_off s ps h l j to_left.1 fj vj (sym e)) jk,
                )) s.spare s.free h.free),
          ));
          size = omega (arith, length_without k ps h.apart w, h.size, two.spare, one.free.1, two.places, one.places);
        },
        sym (h.values k) ∙ sym (one.values k) ∙ two.was,
        omega (arith, two.spare, one.free.1),
      )

  -- What the two calls owe

  pub link_kept : (s t : Links T) (k : ℕ) → SamePlaces s t → IsLink s k → IsLink t k
  link_kept s t k same (inl e) = inl e
  link_kept s t k same (inr f) = inr (place_kept s.block.items t.block.items k same f)

  pub link_on : (s : Links T) (k : ℕ) → IsLinked s → IsOn nil (pairs_of s) k → IsLink s k
  link_on s k h on = is_link s (pairs_of s) h k on

  pub link_left : (s : Links T) (k : ℕ) → IsLinked s → IsOn nil (pairs_of s) k → IsLink s (left s k)
  link_left s k h on = is_link s (pairs_of s) h (left s k) (left_is (right s) (left s) nil (pairs_of s) k h.joined on).1

  pub link_right : (s : Links T) (k : ℕ) → IsLinked s → IsOn nil (pairs_of s) k → IsLink s (right s k)
  link_right s k h on = is_link s (pairs_of s) h (right s k) (right_is (right s) (left s) nil (pairs_of s) k h.joined on).1

  pub link_free : (s : Links T) (k : ℕ) → IsLinked s → 0 < s.spare → k ≡ s.free → IsLink s k
  link_free s k h more e = inr (subst (IsPlace s.block.items) (sym e) (first_free s s.spare s.free more h.free).2.0)

  pub put_done : (s t u v : Links T) (at k : ℕ) (x : T) → IsLinked s → 0 < s.spare → IsOn nil (pairs_of s) at → Fills s t k x → Joins t u (left t at) k → Joins u v k at
      → IsLinked v × (pairs_of v ≡ put_before at (knot k, x) (pairs_of s)) × (has_knot k (pairs_of s) ≡ false)
  put_done s t u v at k x h more on f one two =
      let kept = put_keeps s t u v (pairs_of s) at k x h more on f one two in
      let done = linked v (put_before at (knot k, x) (pairs_of s)) kept.0 in
      (done.0, done.1, kept.1)

  pub unlink_done : (s t u : Links T) (k : ℕ) (x : T) → IsLinked s → has_knot k (pairs_of s) ≡ true → Joins s t (left s k) (right s k) → Empties t u k x
      → IsLinked u × (pairs_of u ≡ without k (pairs_of s)) × (value_at k (pairs_of s) ≡ Some x)
  unlink_done s t u k x h w one two =
      let kept = unlink_keeps s t u (pairs_of s) k x h w one two in
      let done = linked u (without k (pairs_of s)) kept.0 in
      (done.0, done.1, kept.1)

  pub still_there : (s t : Links T) (k : ℕ) → IsLinked s → has_knot k (pairs_of s) ≡ true → value t k ≡ value s k → is_some (value t k) ≡ true
  still_there s t k h w e = ap is_some e ∙ ap is_some (h.values k) ∙ sym (has_is k (pairs_of s)) ∙ w

  -- the link of a place on the chain is that of its node
  pub right_on : (s : Links T) (k : ℕ) → IsLinked s → has_knot k (pairs_of s) ≡ true → right s k ≡ right_in (slice_get s.block.items k)
  right_on s k h w =
      let within = within_of s.block.items k (is_filled s (pairs_of s) h k w) in
      let few = h.few in
      ap (λ b. if b then s.first else right_in (slice_get s.block.items k)) (eq_false k nil (λ e. omega (arith, within, few, e)))

  -- The pairs leave from the first one on

  pub first_on : (s : Links T) → IsLinked s → s.first ≢ nil → has_knot s.first (pairs_of s) ≡ true
  first_on s h n = elim (right_is (right s) (left s) nil (pairs_of s) nil h.joined (inl refl)).1 [ inl e ↦ absurd (n e) | inr w ↦ w ]

  pub none_left : (s : Links T) (ps : List (Knot × T)) → IsChain s ps → s.first ≡ nil → (k : ℕ) → value s k ≡ None
  none_left s [] h e k = h.values k
  none_left s (p ∷ ps) h e k = elim (at_tells nil p) [
    | inl here ↦ absurd (true≢false (sym (ap (λ b. b || has_knot nil ps) here.0) ∙ no_nil s (p ∷ ps) h))
    | inr past ↦ absurd (past.1 (sym h.joined.0 ∙ e))
  ]
