-- Lists with one item more.
use Rattle.hub_commands.proofs.Prelude.{List, [], ap, arith, fold, length, refl, suc, sum_by, sym, ℕ, ◌++◌, ◌+◌, ◌∙◌, ◌∷◌, ◌≡◌}

-- lists with one item more each are the same before it
pub snoc_front : {X : Type 0} (xs ys : List X) (x y : X) → xs ++ x ∷ [] ≡ ys ++ y ∷ [] → xs ≡ ys
snoc_front [] [] x y same = refl
snoc_front [] (z ∷ []) x y same = absurd (cc)
snoc_front [] (z ∷ w ∷ ys) x y same = absurd (cc)
snoc_front (w ∷ []) [] x y same = absurd (cc)
snoc_front (w ∷ v ∷ xs) [] x y same = absurd (cc)
snoc_front (w ∷ xs) (z ∷ ys) x y same =
    let first : w ≡ z = cc in
    let rest : xs ++ x ∷ [] ≡ ys ++ y ∷ [] = cc in
    let front = snoc_front xs ys x y rest in
    λ i. first i ∷ front i

-- .. and that item is the same
pub snoc_last : {X : Type 0} (xs ys : List X) (x y : X) → xs ++ x ∷ [] ≡ ys ++ y ∷ [] → x ≡ y
snoc_last [] [] x y same = cc
snoc_last [] (z ∷ []) x y same = absurd (cc)
snoc_last [] (z ∷ w ∷ ys) x y same = absurd (cc)
snoc_last (w ∷ []) [] x y same = absurd (cc)
snoc_last (w ∷ v ∷ xs) [] x y same = absurd (cc)
snoc_last (w ∷ xs) (z ∷ ys) x y same =
    let rest : xs ++ x ∷ [] ≡ ys ++ y ∷ [] = cc in
    snoc_last xs ys x y rest

-- no list is empty with one item more
pub no_snoc : {X : Type 0} (xs : List X) (x : X) → [] ≡ xs ++ x ∷ [] → ⊥
no_snoc [] x none = cc
no_snoc (y ∷ xs) x none = cc

fold_more : {A X : Type 0} (f : A → X → A) (a : A) (xs : List X) (x : X) → fold f a (xs ++ x ∷ []) ≡ f (fold f a xs) x
fold_more f a [] x = refl
fold_more f a (y ∷ xs) x = fold_more f (f a y) xs x

pub sum_more : {X : Type 0} (f : X → ℕ) (xs : List X) (x : X) → sum_by f (xs ++ x ∷ []) ≡ sum_by f xs + f x
sum_more f xs x = fold_more (λ a y. a + f y) 0 xs x

-- .. by the sums of the two parts
pub sum_apart : {X : Type 0} (f : X → ℕ) (xs : List X) (x : X) → sum_by f (xs ++ x ∷ []) ≡ sum_by f xs + sum_by f (x ∷ [])
sum_apart f xs x = let one : 0 + f x ≡ f x = omega arith in sum_more f xs x ∙ ap (λ n. sum_by f xs + n) (sym one)

pub length_more : {X : Type 0} (xs : List X) (x : X) → length (xs ++ x ∷ []) ≡ suc (length xs)
length_more [] x = refl
length_more (y ∷ xs) x = ap (λ n. suc n) (length_more xs x)
