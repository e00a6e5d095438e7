-- One place of a block is written: what the reads of the others find.
use Rattle.chain_arena.proofs.Prelude.{Empties, Fills, IsFree, IsPlace, Links, List, Node, None, Option, SetsLeft, SetsRight, Some, [], ap, arith, false, if◌then◌else◌, inl, inr, left_in, length, length-set, ne_eqb, nil, refl, right_in, set, slice_get, slice_get_within, suc, sym, value_in, zero, ℕ, ◌+◌, ◌==◌, ◌∙◌, ◌∷◌, ◌≡◌, ◌≢◌, ◌⊎◌}
use Rattle.std.proofs.Common.{◌++◌, ◌<◌}

pub which : (j k : ℕ) → (j ≡ k) ⊎ (j ≢ k)
which zero zero = inl refl
which zero (suc k) = inr (λ e. omega (arith, e))
which (suc j) zero = inr (λ e. omega (arith, e))
which (suc j) (suc k) = elim (which j k) [ inl e ↦ inl (ap suc e) | inr n ↦ inr (λ e. n (omega (arith, e))) ]

pub eq_false : (j k : ℕ) → j ≢ k → (j == k) ≡ false
eq_false j k n = ne_eqb j k n

module _ {X : Type 0} where
  pub place_of : (xs : List X) (i : ℕ) → i < length xs → IsPlace xs i
  place_of [] i lt = absurd (omega (arith, lt))
  place_of (x ∷ xs) zero lt = (x, refl)
  place_of (x ∷ xs) (suc i) lt = place_of xs i (omega (arith, lt))

  pub within_of : (xs : List X) (i : ℕ) → IsPlace xs i → i < length xs
  within_of xs i f = slice_get_within xs i f.0 f.1

  pub place_kept : (xs ys : List X) (i : ℕ) → length ys ≡ length xs → IsPlace xs i → IsPlace ys i
  place_kept xs ys i e f = let within = within_of xs i f in place_of ys i (omega (arith, e, within))

  pub set_at : (xs : List X) (i : ℕ) (x : X) → i < length xs → slice_get (set xs i x) i ≡ Some x
  set_at [] i x lt = absurd (omega (arith, lt))
  set_at (y ∷ xs) zero x lt = refl
  set_at (y ∷ xs) (suc i) x lt = set_at xs i x (omega (arith, lt))

  pub set_past : (xs : List X) (i j : ℕ) (x : X) → j ≢ i → slice_get (set xs i x) j ≡ slice_get xs j
  set_past [] i j x not = refl
  set_past (y ∷ xs) zero zero x not = absurd (not refl)
  set_past (y ∷ xs) zero (suc j) x not = refl
  set_past (y ∷ xs) (suc i) zero x not = refl
  set_past (y ∷ xs) (suc i) (suc j) x not = set_past xs i j x (λ e. not (ap suc e))

  pub more_at : (xs : List X) (x : X) → slice_get (xs ++ x ∷ []) (length xs) ≡ Some x
  more_at [] x = refl
  more_at (y ∷ xs) x = more_at xs x

  pub more_past : (xs : List X) (j : ℕ) (x : X) → j ≢ length xs → slice_get (xs ++ x ∷ []) j ≡ slice_get xs j
  more_past [] zero x not = absurd (not refl)
  more_past [] (suc j) x not = refl
  more_past (y ∷ xs) zero x not = refl
  more_past (y ∷ xs) (suc j) x not = more_past xs j x (λ e. not (ap suc e))

module _ {T : Type 0} (s : Links T) (k : ℕ) (n m : Node T) (had : slice_get s.block.items k ≡ Some n) where
  abbrev xs : List (Node T)
  xs = set s.block.items k m

  within : k < length s.block.items
  within = slice_get_within s.block.items k n had

  pub written : slice_get xs k ≡ Some m
  written = set_at s.block.items k m within

  pub same_size : length xs ≡ length s.block.items
  same_size = length-set s.block.items k m

  -- what cannot tell the two apart reads the same
  pub same_in : {Y : Type 0} (f : Option (Node T) → Y) → f (Some m) ≡ f (Some n) → (j : ℕ) → f (slice_get xs j) ≡ f (slice_get s.block.items j)
  same_in f e j = elim (which j k) [
    | inl is ↦ ap (λ i. f (slice_get xs i)) is ∙ ap f written ∙ e ∙ sym (ap f had) ∙ sym (ap (λ i. f (slice_get s.block.items i)) is)
    | inr not ↦ ap f (set_past s.block.items k j m not)
  ]

  other_in : {Y : Type 0} (f : Option (Node T) → Y) (j : ℕ) → j ≢ k → f (slice_get xs j) ≡ f (slice_get s.block.items j)
  other_in f j not = ap f (set_past s.block.items k j m not)

  -- at a place that is none, the number beside the block
  at_place : {Y : Type 0} (f : Option (Node T) → Y) (y : Y) → k ≢ nil → (if k == nil then y else f (slice_get xs k)) ≡ f (Some m)
  at_place f y not = ap (λ b. if b then y else f (slice_get xs k)) (eq_false k nil not) ∙ ap f written

  pub right_set : k ≢ nil → m.left ≡ n.left → m.value ≡ n.value → SetsRight s (record s { block = record s.block { items = xs } }) k m.right
  right_set not ls vs = record {
    places = same_size;
    at = at_place right_in s.first not;
    others = λ j other. ap (λ x. if j == nil then s.first else x) (other_in right_in j other);
    lefts = λ j. ap (λ x. if j == nil then s.last else x) (same_in left_in ls j);
    values = λ j. same_in value_in vs j;
    free = (refl, refl);
  }

  pub left_set : k ≢ nil → m.right ≡ n.right → m.value ≡ n.value → SetsLeft s (record s { block = record s.block { items = xs } }) k m.left
  left_set not rs vs = record {
    places = same_size;
    at = at_place left_in s.last not;
    others = λ j other. ap (λ x. if j == nil then s.last else x) (other_in left_in j other);
    rights = λ j. ap (λ x. if j == nil then s.first else x) (same_in right_in rs j);
    values = λ j. same_in value_in vs j;
    free = (refl, refl);
  }

  pub filled_in : k ≢ nil → (x : T) (f sp : ℕ) → k ≡ s.free → m.left ≡ n.left → m.right ≡ n.right → m.value ≡ Some x → f ≡ n.right → sp + 1 ≡ s.spare
      → Fills s (record s { block = record s.block { items = xs }; free = f; spare = sp }) k x
  filled_in not x f sp was ls rs vs fr less = record {
    places = same_size;
    at = ap value_in written ∙ vs;
    values = λ j other. other_in value_in j other;
    rights = λ j. ap (λ y. if j == nil then s.first else y) (same_in right_in rs j);
    lefts = λ j. ap (λ y. if j == nil then s.last else y) (same_in left_in ls j);
    was = was;
    free = fr ∙ sym (ap (λ b. if b then s.first else right_in (slice_get s.block.items k)) (eq_false k nil not) ∙ ap right_in had);
    spare = less;
  }

  pub emptied_in : k ≢ nil → (x : T) (sp : ℕ) → n.value ≡ Some x → m.left ≡ n.left → m.right ≡ s.free → m.value ≡ None → sp ≡ s.spare + 1
      → Empties s (record s { block = record s.block { items = xs }; free = k; spare = sp }) k x
  emptied_in not x sp had_x ls rs vs more = record {
    places = same_size;
    was = ap value_in had ∙ had_x;
    at = ap value_in written ∙ vs;
    values = λ j other. other_in value_in j other;
    right_at = at_place right_in s.first not ∙ rs;
    rights = λ j other. ap (λ y. if j == nil then s.first else y) (other_in right_in j other);
    lefts = λ j. ap (λ y. if j == nil then s.last else y) (same_in left_in ls j);
    free = refl;
    spare = more;
  }

pub free_within : {T : Type 0} (s : Links T) (n k : ℕ) → 0 < n → IsFree s n k → k < length s.block.items
free_within s zero k more free = absurd (omega (arith, more))
free_within s (suc n) k more free = within_of s.block.items k free.0
