-- Words behind each other, each read for an item of its own.
use Rattle.printed_records.proofs.Prelude.{List, Ok, Option, Place, Result, Some, [], ap, append-nil, append_assoc, arith, length, length-append, ok_or, refl, slice_index_or, sym, walk, ℕ, ⊤, ◌++◌, ◌>>=◌, ◌∙◌, ◌∷◌, ◌≡◌}

-- each word is read for the item in its place
abbrev pub AreRead : {X Y : Type 0} → (X → List ℕ → Option Y) → List X → List (List ℕ) → List Y → Type 0
AreRead read [] [] [] = ⊤
AreRead read [] [] (y ∷ ys) = ⊥
AreRead read [] (word ∷ words) ys = ⊥
AreRead read (x ∷ xs) [] ys = ⊥
AreRead read (x ∷ xs) (word ∷ words) [] = ⊥
AreRead read (x ∷ xs) (word ∷ words) (y ∷ ys) = (read x word ≡ Some y) × AreRead read xs words ys

pub read-length : {X Y : Type 0} (read : X → List ℕ → Option Y) (xs : List X) (words : List (List ℕ)) (ys : List Y) → AreRead read xs words ys → length words ≡ length xs
read-length read [] [] [] are = refl
read-length read [] [] (y ∷ ys) are = absurd are
read-length read [] (word ∷ words) ys are = absurd are
read-length read (x ∷ xs) [] ys are = absurd are
read-length read (x ∷ xs) (word ∷ words) [] are = absurd are
read-length read (x ∷ xs) (word ∷ words) (y ∷ ys) are = omega (arith, read-length read xs words ys are.1)

index-front : (front : List (List ℕ)) (word : List ℕ) (words : List (List ℕ)) → slice_index_or (front ++ word ∷ words) (length front) [] ≡ word
index-front [] word words = refl
index-front (w ∷ front) word words = index-front front word words

abbrev next_read : {X Y : Type 0} → (X → List ℕ → Option Y) → Place → List (List ℕ) → List Y → X → Result (List Y) Place
next_read read place words earlier x = do
  y ← ok_or (read x (slice_index_or words (length earlier) [])) place
  Ok (earlier ++ y ∷ [])

-- the walk that reads them, from the middle
reads-on : {X Y : Type 0} (read : X → List ℕ → Option Y) (place : Place) (front : List (List ℕ)) (earlier : List Y) (xs : List X) (words : List (List ℕ)) (ys : List Y)
    → length front ≡ length earlier → AreRead read xs words ys → walk (next_read read place (front ++ words)) earlier xs ≡ Ok (earlier ++ ys)
unfolding walk
reads-on read place front earlier [] [] [] same are = ap Ok (sym (append-nil earlier))
reads-on read place front earlier [] [] (y ∷ ys) same are = absurd are
reads-on read place front earlier [] (word ∷ words) ys same are = absurd are
reads-on read place front earlier (x ∷ xs) [] ys same are = absurd are
reads-on read place front earlier (x ∷ xs) (word ∷ words) [] same are = absurd are
reads-on {X} {Y} read place front earlier (x ∷ xs) (word ∷ words) (y ∷ ys) same are =
    let all = front ++ word ∷ words in
    let found : slice_index_or all (length earlier) [] ≡ word = ap (λ k. slice_index_or all k []) (sym same) ∙ index-front front word words in
    let got : read x (slice_index_or all (length earlier) []) ≡ Some y = ap (read x) found ∙ are.0 in
    let longer : length (front ++ word ∷ []) ≡ length (earlier ++ y ∷ []) = omega (arith, same, length-append front (word ∷ []), length-append earlier (y ∷ [])) in
    ap (λ o. ok_or o place >>= (λ z. Ok (earlier ++ z ∷ [])) >>= (λ next. walk (next_read read place all) next xs)) got
    ∙ ap (λ ws. walk (next_read read place ws) (earlier ++ y ∷ []) xs) (sym (append_assoc front (word ∷ []) words))
    ∙ reads-on read place (front ++ word ∷ []) (earlier ++ y ∷ []) xs words ys longer are.1
    ∙ ap Ok (append_assoc earlier (y ∷ []) ys)

-- the walk that reads them tells them
pub reads : {X Y : Type 0} (read : X → List ℕ → Option Y) (place : Place) (xs : List X) (words : List (List ℕ)) (ys : List Y)
    → AreRead read xs words ys → walk (next_read read place words) [] xs ≡ Ok ys
reads read place xs words ys are = reads-on read place [] [] xs words ys refl are
