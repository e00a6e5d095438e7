-- Lists of publishings that grow.
use Rattle.status_board.proofs.Prelude.{All, Counts, IsNotBelow, List, RisesFrom, StartsWith, [], ap, append_assoc, arith, false, get_or, last_from, last_of, length, length-append, nothing, refl, subst, suc, sym, take, true, true≢false, zero, ℕ, ◌++◌, ◌+◌, ◌<◌, ◌∙◌, ◌∷◌, ◌≡◌}
use Rattle.std.proofs.lemmas.List.{append-nil, take_more}

-- no number of the second is smaller, twice
pub not_below_on : (a b c : Counts) → IsNotBelow a b → IsNotBelow b c → IsNotBelow a c
not_below_on a b c first then = (omega (arith, first.0, then.0), omega (arith, first.1, then.1), omega (arith, first.2, then.2), omega (arith, first.3, then.3))

-- the last after one more is that one
pub last_more : (c : Counts) (xs : List Counts) (x : Counts) → last_from c (xs ++ x ∷ []) ≡ x
last_more c [] x = refl
last_more c (y ∷ xs) x = last_more y xs x

pub rises_more : (c : Counts) (xs : List Counts) (x : Counts) → RisesFrom c xs → IsNotBelow (last_from c xs) x → RisesFrom c (xs ++ x ∷ [])
rises_more c [] x up on = (on, tt)
rises_more c (y ∷ xs) x up on = (up.0, rises_more y xs x up.1 on)

-- the last of a longer list is not below
pub rises_to : (c : Counts) (xs : List Counts) → RisesFrom c xs → IsNotBelow c (last_from c xs)
rises_to c [] up = (omega arith, omega arith, omega arith, omega arith)
rises_to c (y ∷ xs) up = let further = rises_to y xs up.1 in let first = up.0 in not_below_on c y (last_from y xs) first further

pub rises_on : (c : Counts) (xs ys : List Counts) → RisesFrom c (xs ++ ys) → IsNotBelow (last_from c xs) (last_from c (xs ++ ys))
rises_on c [] ys up = rises_to c ys up
rises_on c (x ∷ xs) ys up = rises_on x xs ys up.1

pub starts_same : (xs : List Counts) → StartsWith xs xs
starts_same xs = ([], sym (append-nil xs))

pub starts_none : (xs : List Counts) → StartsWith xs []
starts_none xs = (xs, refl)

pub starts_more : (xs seen : List Counts) (x : Counts) → StartsWith xs seen → StartsWith (xs ++ x ∷ []) seen
starts_more xs seen x so = (so.0 ++ x ∷ [], ap (λ l. l ++ x ∷ []) so.1 ∙ append_assoc seen so.0 (x ∷ []))

pub rises_since : (c : Counts) (all seen : List Counts) → StartsWith all seen → RisesFrom c all → IsNotBelow (last_from c seen) (last_from c all)
rises_since c all seen so up = subst (λ l. IsNotBelow (last_from c seen) (last_from c l)) (sym so.1) (rises_on c seen so.0 (subst (RisesFrom c) so.1 up))

pub starts_on : (xs ys zs : List Counts) → StartsWith ys xs → StartsWith zs ys → StartsWith zs xs
starts_on xs ys zs first then = (first.0 ++ then.0, then.1 ∙ ap (λ l. l ++ then.0) first.1 ∙ append_assoc xs first.0 then.0)

-- what a later look finds is not below the last entry of a beginning
pub found_since : (x : Counts) (all seen : List Counts) → StartsWith all seen → RisesFrom nothing all → x ≡ last_of all → IsNotBelow (last_of seen) x
found_since x all seen so up found = subst (IsNotBelow (last_of seen)) (sym found) (rises_since nothing all seen so up)

-- each entry is not below the one before it
pub rises_at : (c : Counts) (xs : List Counts) (i : ℕ) (d : Counts) → RisesFrom c xs → i < length xs → IsNotBelow (last_from c (take i xs)) (get_or xs i d)
rises_at c [] i d up within = absurd (omega arith)
rises_at c (x ∷ xs) zero d up within = up.0
rises_at c (x ∷ xs) (suc i) d up within = rises_at x xs i d up.1 (omega arith)

pub not_below_same : (c : Counts) → IsNotBelow c c
not_below_same c = (omega arith, omega arith, omega arith, omega arith)

pub is_last : (xs : List Counts) (i : ℕ) (d : Counts) → i < length xs → last_of (take (i + 1) xs) ≡ get_or xs i d
is_last xs i d within = ap last_of (take_more xs i d within) ∙ last_more nothing (take i xs) (get_or xs i d)

tail_of : List Counts → List Counts
tail_of [] = []
tail_of (x ∷ xs) = xs

-- where only the last entry is over, who has seen one that is over has seen the last
pub only_over : (d : Counts) (xs seen : List Counts) (c : Counts) → d.over ≡ false → All (λ x. x.over ≡ false) xs → StartsWith (xs ++ c ∷ []) seen → (last_from d seen).over ≡ true → last_from d seen ≡ c
unfolding tail_of
only_over d xs [] c shut all so is_over = absurd (true≢false (sym is_over ∙ shut))
only_over d [] (s ∷ []) c shut all so is_over = sym (ap (last_from d) (ap (take 1) so.1))
only_over d [] (s ∷ t ∷ seen) c shut all so is_over = absurd (let e : 1 ≡ length ((s ∷ t ∷ seen) ++ so.0) = ap length so.1 in omega (arith, length-append (s ∷ t ∷ seen) so.0))
only_over d (x ∷ xs) (s ∷ seen) c shut all so is_over =
    only_over s xs seen c
    (ap (λ (y : Counts). y.over) (sym (ap (last_from d) (ap (take 1) so.1))) ∙ all 0 x (omega arith))
    (λ k y within. all (suc k) y (omega arith))
    (so.0, ap tail_of so.1)
    is_over
