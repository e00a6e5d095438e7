-- A chain has one place more.
use Rattle.chain_arena.proofs.Chains.{free_same, no_knot}
use Rattle.chain_arena.proofs.Joins.{same_links}
use Rattle.chain_arena.proofs.Places.{eq_false, more_at, more_past, place_of, which, within_of}
use Rattle.chain_arena.proofs.Words.{differ}
use Rattle.chain_arena.proofs.Prelude.{IsChain, IsFree, IsLinked, IsOn, IsPlace, Knot, Links, List, Node, None, Some, ap, arith, if◌then◌else◌, inl, inr, left, left_in, length, length-append, nil, node, pairs_of, refl, right, right_in, slice_get, slice_get_past, subst, suc, sym, value, value_in, with_free, ℕ, ◌+◌, ◌==◌, ◌∙◌, ◌≡◌, ◌≢◌, ◌≤◌}
use Rattle.chain_arena.specs.Blocks.{Placed}
use Rattle.std.proofs.Common.{◌<◌}

module _ {T : Type 0} where
  -- it is free
  pub one_more : (s : Links T) (ps : List (Knot × T)) → IsChain s ps → length s.block.items < nil → IsChain (with_free s) ps
  one_more s ps h lt =
      let t = with_free s in
      let n = length s.block.items in
      let new : Node T = node nil s.free None in
      let size : length t.block.items ≡ n + 1 = length-append s.block.items _ in
      let own : slice_get t.block.items n ≡ Some new = more_at s.block.items new in
      let other : (j : ℕ) → j ≢ n → slice_get t.block.items j ≡ slice_get s.block.items j = λ j jn. more_past s.block.items j new jn in
      let was : value s n ≡ None = ap value_in (slice_get_past s.block.items n (omega arith)) in
      let not : n ≢ nil = λ e. omega (arith, lt, e) in
      let off : (j : ℕ) → IsOn nil ps j → j ≢ n = λ j on e. elim on [ inl f ↦ not (sym e ∙ f) | inr w ↦ differ j n ps w (no_knot s ps h n was) e ] in
      let old : (j : ℕ) → IsPlace s.block.items j → j ≢ n = λ j f e. (let within = within_of s.block.items j f in omega (arith, within, e)) in
      let rights : (j : ℕ) → j ≢ n → right t j ≡ right s j = λ j jn. ap (λ c. if j == nil then s.first else right_in c) (other j jn) in
      let more : suc s.spare ≡ s.spare + 1 = omega arith in
      record {
        few = omega (arith, size, lt);
        values = λ k. elim (which k n) [
          | inl is ↦ ap (value t) is ∙ ap value_in own ∙ sym was ∙ ap (value s) (sym is) ∙ h.values k
          | inr kn ↦ ap value_in (other k kn) ∙ h.values k
        ];
        apart = h.apart;
        joined = same_links (right s) (left s) (right t) (left t) nil ps h.joined (λ j on. rights j (off j on)) (λ j on. ap (λ c. if j == nil then s.last else left_in c) (other j (off j on)));
        free = subst (λ c. IsFree t c n) more (
          (new, own),
          ap value_in own,
          subst (IsFree t s.spare) (sym (ap (λ b. if b then s.first else right_in (slice_get t.block.items n)) (eq_false n nil not) ∙ ap right_in own))
              (free_same s t (λ j f v.
              let within = within_of s.block.items j f in
              (place_of t.block.items j (omega (arith, within, size)), ap value_in (other j (old j f)) ∙ v, rights j (old j f))) s.spare s.free h.free),
        );
        size = omega (arith, h.size, size);
      }

  -- t has the pairs of s, and as many places as s or more, up to len
  pub record Growing (s t : Links T) (len : ℕ) : Type 0 where
    pub chain : IsChain t (pairs_of s)
    pub within : length t.block.items ≤ len
    pub room : len ≤ t.block.room
    pub spare : t.spare + length s.block.items ≡ s.spare + length t.block.items

  pub grows_from : (s : Links T) (b : Placed (Node T)) (len : ℕ) → IsLinked s → length s.block.items ≤ len → b.items ≡ s.block.items → len ≤ b.room → Growing s (record s { block = b }) len
  grows_from s b len h le same fits = record {
    chain = subst (λ xs. IsChain (record s { block = record b { items = xs } }) (pairs_of s)) (sym same)
        (record { few = h.few; values = h.values; apart = h.apart; joined = h.joined; free = free_same s (record s { block = record b { items = s.block.items } }) (λ j f v. (f, v, refl)) s.spare s.free h.free; size = h.size });
    within = omega (arith, ap length same, le);
    room = fits;
    spare = ap (λ xs. s.spare + length xs) (sym same);
  }

  pub grows_more : (s t u : Links T) (len : ℕ) → Growing s t len → length t.block.items < len → len ≤ nil → u ≡ with_free t → Growing s u len
  grows_more s t u len g lt few is =
      let size : length (with_free t).block.items ≡ length t.block.items + 1 = length-append t.block.items _ in
      subst (λ v. Growing s v len) (sym is) (record {
        chain = one_more t (pairs_of s) g.chain (omega (arith, lt, few));
        within = omega (arith, size, lt);
        room = g.room;
        spare = omega (arith, size, g.spare);
      })
