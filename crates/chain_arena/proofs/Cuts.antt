-- The words on a chain's pairs, where the list is cut at a pair. For the layers above.
use Rattle.chain_arena.proofs.Words.{without_none}
use Rattle.chain_arena.proofs.Prelude.{AreApart, Knot, List, Some, [], ap, ap₂, arith, common_steps, false, from_knot, has_knot, if◌then◌else◌, is_at, length, put_before, refl, set_value, suc, true, value_at, values_of, without, ℕ, ◌∷◌, ◌≡◌}
use Rattle.std.proofs.Common.{◌++◌}

module _ {T : Type 0} where
  pub values_cut : (front : List (Knot × T)) (p : Knot × T) (rest : List (Knot × T)) → values_of (front ++ p ∷ rest) ≡ values_of front ++ p.1 ∷ values_of rest
  values_cut [] p rest = refl
  values_cut (q ∷ front) p rest = ap (λ l. q.1 ∷ l) (values_cut front p rest)

  pub values_join : (front rest : List (Knot × T)) → values_of (front ++ rest) ≡ values_of front ++ values_of rest
  values_join [] rest = refl
  values_join (q ∷ front) rest = ap (λ l. q.1 ∷ l) (values_join front rest)

  pub length_values : (ps : List (Knot × T)) → length (values_of ps) ≡ length ps
  length_values [] = refl
  length_values (p ∷ ps) = ap suc (length_values ps)

  -- the knot of the pair is that of no other
  pub apart_front : (k : ℕ) (front : List (Knot × T)) (p : Knot × T) (rest : List (Knot × T)) → is_at k p ≡ true → AreApart (front ++ p ∷ rest) → has_knot k front ≡ false
  apart_front k [] p rest e a = refl
  apart_front k (q ∷ front) p rest e a = grind (arith, common_steps, a.0, apart_front k front p rest e a.1)

  pub apart_rest : (k : ℕ) (front : List (Knot × T)) (p : Knot × T) (rest : List (Knot × T)) → is_at k p ≡ true → AreApart (front ++ p ∷ rest) → has_knot k rest ≡ false
  apart_rest k [] p rest e a = grind (arith, common_steps, a.0)
  apart_rest k (q ∷ front) p rest e a = apart_rest k front p rest e a.1

  pub has_cut : (k : ℕ) (front : List (Knot × T)) (p : Knot × T) (rest : List (Knot × T)) → is_at k p ≡ true → has_knot k (front ++ p ∷ rest) ≡ true
  has_cut k [] p rest e = grind (arith, common_steps)
  has_cut k (q ∷ front) p rest e = grind (arith, common_steps, has_cut k front p rest e)

  pub value_cut : (k : ℕ) (front : List (Knot × T)) (p : Knot × T) (rest : List (Knot × T)) → is_at k p ≡ true → has_knot k front ≡ false → value_at k (front ++ p ∷ rest) ≡ Some p.1
  value_cut k [] p rest e n = grind (arith, common_steps)
  value_cut k (q ∷ front) p rest e n = grind (arith, common_steps, value_cut k front p rest e)

  pub put_cut : (k : ℕ) (z : Knot × T) (front : List (Knot × T)) (p : Knot × T) (rest : List (Knot × T)) → is_at k p ≡ true → has_knot k front ≡ false → put_before k z (front ++ p ∷ rest) ≡ front ++ z ∷ p ∷ rest
  put_cut k z [] p rest e n = grind (arith, common_steps)
  put_cut k z (q ∷ front) p rest e n = grind (arith, common_steps, put_cut k z front p rest e)

  pub from_cut : (k : ℕ) (front : List (Knot × T)) (p : Knot × T) (rest : List (Knot × T)) → is_at k p ≡ true → has_knot k front ≡ false → from_knot k (front ++ p ∷ rest) ≡ p ∷ rest
  from_cut k [] p rest e n = grind (arith, common_steps)
  from_cut k (q ∷ front) p rest e n = grind (arith, common_steps, from_cut k front p rest e)

  pub without_cut : (k : ℕ) (front : List (Knot × T)) (p : Knot × T) (rest : List (Knot × T)) → is_at k p ≡ true → has_knot k front ≡ false → has_knot k rest ≡ false → without k (front ++ p ∷ rest) ≡ front ++ rest
  without_cut k [] p rest e n m = grind (arith, common_steps, without_none k rest)
  without_cut k (q ∷ front) p rest e n m = grind (arith, common_steps, without_cut k front p rest)

  pub set_none : (k : ℕ) (y : T) (ps : List (Knot × T)) → has_knot k ps ≡ false → set_value k y ps ≡ ps
  set_none k y [] n = refl
  set_none k y (q ∷ ps) n =
      let past : is_at k q ≡ false = grind (arith, common_steps, n) in
      ap₂ (λ z l. (q.0, z) ∷ l) (ap (λ b. if b then y else q.1) past) (set_none k y ps (grind (arith, common_steps, n)))

  pub set_cut : (k : ℕ) (y : T) (front : List (Knot × T)) (p : Knot × T) (rest : List (Knot × T)) → is_at k p ≡ true → has_knot k front ≡ false → has_knot k rest ≡ false → set_value k y (front ++ p ∷ rest) ≡ front ++ (p.0, y) ∷ rest
  set_cut k y [] p rest e n m = ap₂ (λ z l. (p.0, z) ∷ l) (ap (λ b. if b then y else p.1) e) (set_none k y rest m)
  set_cut k y (q ∷ front) p rest e n m =
      let past : is_at k q ≡ false = grind (arith, common_steps, n) in
      ap₂ (λ z l. (q.0, z) ∷ l) (ap (λ b. if b then y else q.1) past) (set_cut k y front p rest e (grind (arith, common_steps, n)) m)
