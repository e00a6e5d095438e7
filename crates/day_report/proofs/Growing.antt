-- A text that grows by a piece for each element of a list.
use Rattle.day_report.proofs.Prelude.{List, [], add-zero, ap, append-nil, arith, enumerate_from, flat_map, flat_map_more, get_or, length, length-take-le, suc, sym, take, take_more, ℕ, ◌++◌, ◌+◌, ◌<◌, ◌∙◌, ◌∷◌, ◌≡◌}

-- before the first piece
pub no_piece : {A : Type 0} (start : List A) → start ≡ start ++ []
no_piece start = sym (append-nil start)

-- one more piece
pub one_piece_more : {X A : Type 0} (f : X → List A) (start : List A) (xs : List X) (i : ℕ) (d : X) → i < length xs → (start ++ flat_map f (take i xs)) ++ f (get_or xs i d) ≡ start ++ flat_map f (take (i + 1) xs)
one_piece_more f start xs i d within = flat_map_more f start (take i xs) (get_or xs i d) ∙ ap (λ ys. start ++ flat_map f ys) (sym (take_more xs i d within))

-- a numbered list with one more element
pub enumerate_from-append : {X : Type 0} (n : ℕ) (xs : List X) (x : X) → enumerate_from n (xs ++ x ∷ []) ≡ enumerate_from n xs ++ (n + length xs, x) ∷ []
enumerate_from-append n [] x = ap (λ k. (k, x) ∷ []) (sym (add-zero n))
enumerate_from-append n (y ∷ ys) x =
    let step : (n + 1) + length ys ≡ n + suc (length ys) = omega arith in
    ap (λ zs. (n, y) ∷ zs) (enumerate_from-append (n + 1) ys x ∙ ap (λ k. enumerate_from (n + 1) ys ++ (k, x) ∷ []) step)

-- one more numbered piece
pub one_numbered_piece_more : {X A : Type 0} (f : ℕ × X → List A) (start : List A) (n : ℕ) (xs : List X) (i k : ℕ) (x : X) → i < length xs → k ≡ n + i → x ≡ get_or xs i x → (start ++ flat_map f (enumerate_from n (take i xs))) ++ f (k, x) ≡ start ++ flat_map f (enumerate_from n (take (i + 1) xs))
one_numbered_piece_more f start n xs i k x within number element =
    let so_far : length (take i xs) ≡ i = length-take-le i xs (omega arith) in
    let more : take (i + 1) xs ≡ take i xs ++ x ∷ [] = take_more xs i x within ∙ ap (λ y. take i xs ++ y ∷ []) (sym element) in
    let numbered : enumerate_from n (take (i + 1) xs) ≡ enumerate_from n (take i xs) ++ (k, x) ∷ [] =
    ap (enumerate_from n) more ∙ enumerate_from-append n (take i xs) x
    ∙ ap (λ m. enumerate_from n (take i xs) ++ (m, x) ∷ []) (ap (λ j. n + j) so_far ∙ sym number) in
    flat_map_more f start (enumerate_from n (take i xs)) (k, x) ∙ ap (λ ys. start ++ flat_map f ys) (sym numbered)
