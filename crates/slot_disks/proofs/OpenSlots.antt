-- The open slots of a file.
use Rattle.slot_disks.proofs.Prelude.{All, Bool, List, [], ap, append-nil, append_assoc, arith, drop, drop-take, drop_at, false, length, length-append, length-take, min, nat_lt, nat_tests, open_slots, refl, slice_get, slots_of, suc, suc-mul, sym, take, take-take, take_at, true, zero, ℕ, ◌&&◌, ◌*◌, ◌++◌, ◌+◌, ◌<◌, ◌==◌, ◌∙◌, ◌∷◌, ◌≡◌, ◌≢◌, ◌≤◌}

pub kept_open : (size most : ℕ) (w tail : List ℕ) → length w ≡ size → 0 < length tail → open_slots size (suc most) (1 ∷ (w ++ tail)) ≡ w ∷ open_slots size most tail
kept_open size most w tail is some =
    let long : size < length (w ++ tail) = omega (arith, length-append w tail, is, some) in
    let front : take size (w ++ tail) ≡ w = take_at w tail size is in
    let back : drop size (w ++ tail) ≡ tail = drop_at w tail size is in
    let opens : open_slots size (suc most) (1 ∷ (w ++ tail)) ≡ take size (w ++ tail) ∷ open_slots size most (drop size (w ++ tail)) = grind (arith, nat_tests, long) in
    opens ∙ ap (λ l. l ∷ open_slots size most (drop size (w ++ tail))) front ∙ ap (λ l. w ∷ open_slots size most l) back

pub kept_shut : (size most gate : ℕ) (rest : List ℕ) → gate ≢ 1 → open_slots size most (gate ∷ rest) ≡ []
kept_shut size zero gate rest shut = refl
kept_shut size (suc most) gate rest shut = grind (arith, nat_tests, shut)

-- slots that were written, and what stands after them
pub kept_slots : (size most m : ℕ) (bodies : List (List ℕ)) (x : ℕ) (xs : List ℕ) → All (λ w. length w ≡ size) bodies → most ≡ length bodies + m → open_slots size most (slots_of bodies ++ x ∷ xs) ≡ bodies ++ open_slots size m (x ∷ xs)
kept_slots size most m [] x xs all is = ap (λ k. open_slots size k (x ∷ xs)) (omega (arith, is))
kept_slots size zero m (w ∷ ws) x xs all is = absurd (omega (arith, is))
kept_slots size (suc most) m (w ∷ ws) x xs all is =
    ap (λ l. open_slots size (suc most) (1 ∷ l)) (append_assoc w (slots_of ws) (x ∷ xs))
    ∙ kept_open size most w (slots_of ws ++ x ∷ xs) (all 0 w (omega arith)) (omega (arith, length-append (slots_of ws) (x ∷ xs)))
    ∙ ap (λ l. w ∷ l) (kept_slots size most m ws x xs (λ k d within. all (suc k) d (omega (arith, within))) (omega (arith, is)))

pub slots-length : (size : ℕ) (bodies : List (List ℕ)) → All (λ w. length w ≡ size) bodies → length (slots_of bodies) ≡ length bodies * (size + 1)
slots-length size [] all = omega arith
slots-length size (w ∷ ws) all =
    let more = slots-length size ws (λ k d within. all (suc k) d (omega (arith, within))) in
    omega (arith, more, length-append w (slots_of ws), all 0 w (omega arith), suc-mul (length ws) (size + 1))

pub one_size : (size : ℕ) (body : List ℕ) → length body ≡ size → All (λ body. length body ≡ size) (body ∷ [])
one_size size body is zero d within = is
one_size size body is (suc k) d within = absurd (omega (arith, within))

-- slots one after the other
pub slots_append : (bodies new : List (List ℕ)) → slots_of (bodies ++ new) ≡ slots_of bodies ++ slots_of new
slots_append [] new = refl
slots_append (w ∷ ws) new = ap (λ l. 1 ∷ l) (ap (λ l. w ++ l) (slots_append ws new) ∙ sym (append_assoc w (slots_of ws) (slots_of new)))

-- one more slot
pub slots_push : (bodies : List (List ℕ)) (w rest : List ℕ) → slots_of (bodies ++ w ∷ []) ++ rest ≡ slots_of bodies ++ 1 ∷ (w ++ rest)
slots_push bodies w rest =
    ap (λ l. l ++ rest) (slots_append bodies (w ∷ []))
    ∙ append_assoc (slots_of bodies) (1 ∷ (w ++ [])) rest
    ∙ ap (λ l. slots_of bodies ++ 1 ∷ (l ++ rest)) (append-nil w)

-- where no slot more is open
pub open_short : (size most : ℕ) (bytes : List ℕ) → length bytes ≤ size + 1 → open_slots size most bytes ≡ []
open_short size zero bytes le = refl
open_short size (suc most) [] le = refl
open_short size (suc most) (gate ∷ rest) le = let few : length rest ≤ size = omega (arith, le) in grind (arith, nat_tests, few)

pub open_before : (size most m : ℕ) (bodies : List (List ℕ)) (rest : List ℕ) → All (λ body. length body ≡ size) bodies → most ≡ length bodies + m → (0 < length bodies → 0 < length rest) → open_slots size m rest ≡ [] → open_slots size most (slots_of bodies ++ rest) ≡ bodies
open_before size most m [] [] sizes is some none = ap (λ n. open_slots size n []) (omega (arith, is)) ∙ none
open_before size most m (body ∷ bodies) [] sizes is some none = absurd (omega (arith, some (omega arith)))
open_before size most m bodies (x ∷ xs) sizes is some none = kept_slots size most m bodies x xs sizes is ∙ ap (λ l. bodies ++ l) none ∙ append-nil bodies

-- slots after the last one that may be there are not looked at
pub open_front : (size most n : ℕ) (bytes : List ℕ) → n ≡ most * (size + 1) + 1 → open_slots size most (take n bytes) ≡ open_slots size most bytes
open_front size zero n bytes is = refl
open_front size (suc most) zero bytes is = absurd (omega (arith, is))
open_front size (suc most) (suc n) [] is = refl
open_front size (suc most) (suc n) (gate ∷ rest) is = by (open_front size most (most * (size + 1) + 1) (drop size rest) refl) ((gate == 1) && nat_lt size (length rest)) refl
  where
    m : ℕ
    m = most * (size + 1) + 1

    split : n ≡ size + (most * (size + 1) + 1)
    split = omega (arith, is, suc-mul most (size + 1))

    fewer : length (take n rest) ≡ min n (length rest)
    fewer = length-take n rest

    by : open_slots size most (take (most * (size + 1) + 1) (drop size rest)) ≡ open_slots size most (drop size rest) → (b : Bool) → ((gate == 1) && nat_lt size (length rest)) ≡ b → open_slots size (suc most) (gate ∷ take n rest) ≡ open_slots size (suc most) (gate ∷ rest)
    by below true e =
        let here : gate ≡ 1 = grind (arith, nat_tests, e) in
        let long : size < length rest = grind (arith, nat_tests, e) in
        let long' : size < length (take n rest) = omega (arith, long, split, fewer) in
        let front : take size (take n rest) ≡ take size rest = take-take size n rest (omega (arith, split)) in
        let back : drop size (take n rest) ≡ take (most * (size + 1) + 1) (drop size rest) = ap (λ k. drop size (take k rest)) split ∙ drop-take size (most * (size + 1) + 1) rest in
        opened (take n rest) here long' ∙ (λ i. front i ∷ (ap (open_slots size most) back ∙ below) i) ∙ sym (opened rest here long)
      where
        opened : (l : List ℕ) → gate ≡ 1 → size < length l → open_slots size (suc most) (gate ∷ l) ≡ take size l ∷ open_slots size most (drop size l)
        opened l is_open long = grind (arith, nat_tests, is_open, long)
    by below false e = shut (take n rest) (grind (arith, nat_tests, e, fewer, split)) ∙ sym (shut rest e)
      where
        shut : (l : List ℕ) → ((gate == 1) && nat_lt size (length l)) ≡ false → open_slots size (suc most) (gate ∷ l) ≡ []
        shut l e = grind (arith, e)

-- what stands after the first part of a list
pub get_after : (front rest : List ℕ) → slice_get (front ++ rest) (length front) ≡ slice_get rest 0
get_after [] rest = refl
get_after (x ∷ front) rest = get_after front rest

-- fewer slots of one size have fewer bytes
pub fewer_slots : (m n size : ℕ) → m * (size + 1) ≤ n * (size + 1) → m ≤ n
fewer_slots zero n size le = omega arith
fewer_slots (suc m) zero size le = absurd (omega (arith, le, suc-mul m (size + 1)))
fewer_slots (suc m) (suc n) size le = let fewer = fewer_slots m n size (omega (arith, le, suc-mul m (size + 1), suc-mul n (size + 1))) in omega (arith, fewer)
