-- What a reading counts, and how failures and restarts take turns.
use Rattle.history_book.proofs.Prelude.{Arrived, Bool, Did, Doomed, Ended, Entry, Fell, List, Placed, Reading, Rose, Setting, Undid, [], arith, common_steps, cond, count_by, entry, false, fold, if◌then◌else◌, is_fall_of, length, nothing_read, put, reading, refl, sum_by-cons, true, ℕ, ◌+◌, ◌==◌, ◌∙◌, ◌∷◌, ◌≡◌}

-- a number of the reading that each entry raises by one where the test holds of it
counts_from : (w : Setting) (f : Reading → ℕ) (p : Entry → Bool) → ((n : Reading) (e : Entry) → f (entry w n e) ≡ f n + cond (p e) 1 0) → (n : Reading) (h : List Entry) → f (fold (entry w) n h) ≡ f n + count_by p h
counts_from w f p step n [] = omega arith
counts_from w f p step n (e ∷ h) =
    let rest : f (fold (entry w) (entry w n e) h) ≡ f (entry w n e) + count_by p h = counts_from w f p step (entry w n e) h in
    let more : f (entry w n e) ≡ f n + cond (p e) 1 0 = step n e in
    let all : count_by p (e ∷ h) ≡ cond (p e) 1 0 + count_by p h = sum_by-cons (λ x. cond (p x) 1 0) e h in
    omega (arith, rest, more, all)

size_step : (w : Setting) (n : Reading) (e : Entry) → (entry w n e).size ≡ n.size + 1
size_step w n (Arrived r m) = refl
size_step w n (Placed r at m) = refl
size_step w n (Did r c a) = refl
size_step w n (Undid r d drove) = refl
size_step w n (Fell d) = refl
size_step w n (Rose d) = refl
size_step w n (Doomed r cause) = refl
size_step w n (Ended r e) = refl

-- it counts the entries
pub size_is : (w : Setting) (h : List Entry) → (reading w h).size ≡ length h
size_is w h = counts_from w (λ n. n.size) (λ e. true) (size_step w) (nothing_read w) h ∙ all_count h
  where
    all_count : (xs : List Entry) → 0 + count_by (λ e. true) xs ≡ length xs
    all_count [] = refl
    all_count (x ∷ xs) = let all : count_by (λ e. true) (x ∷ xs) ≡ 1 + count_by (λ e. true) xs = sum_by-cons (λ y. 1) x xs in let rest : 0 + count_by (λ e. true) xs ≡ length xs = all_count xs in omega (arith, all, rest)

raised : (f : ℕ → ℕ) (k d : ℕ) → put f k (f k + 1) d ≡ f d + cond (k == d) 1 0
raised f k d = elim (d == k) as (λ b. (d == k) ≡ b → (if b then f k + 1 else f d) ≡ f d + cond (k == d) 1 0) [
  | true ↦ (λ e. let same : d ≡ k = grind (arith, common_steps) in rw same (grind (arith, common_steps)))
  | false ↦ (λ e. let other : (k == d) ≡ false = grind (arith, common_steps) in rw other (omega arith))
] refl

from_none : (k n : ℕ) → k ≡ 0 + n → k ≡ n
from_none k n e = omega (arith, e)

nothing_more : (k : ℕ) → k ≡ k + 0
nothing_more k = omega arith

fell_step : (w : Setting) (d : ℕ) (n : Reading) (e : Entry) → (entry w n e).fell d ≡ n.fell d + cond (is_fall_of d e) 1 0
fell_step w d n (Arrived r m) = nothing_more (n.fell d)
fell_step w d n (Placed r at m) = nothing_more (n.fell d)
fell_step w d n (Did r c a) = nothing_more (n.fell d)
fell_step w d n (Undid r e drove) = nothing_more (n.fell d)
fell_step w d n (Fell e) = raised n.fell e.0 d
fell_step w d n (Rose e) = nothing_more (n.fell d)
fell_step w d n (Doomed r cause) = nothing_more (n.fell d)
fell_step w d n (Ended r e) = nothing_more (n.fell d)

-- it counts the failures of a device
pub fell_is : (w : Setting) (h : List Entry) (d : ℕ) → (reading w h).fell d ≡ count_by (is_fall_of d) h
fell_is w h d = from_none _ (count_by (is_fall_of d) h) (counts_from w (λ n. n.fell d) (is_fall_of d) (fell_step w d) (nothing_read w) h)
