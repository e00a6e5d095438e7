-- Numbers of a range that pass a test, looked at one after another.
use Rattle.run_replay.proofs.Prelude.{Bool, List, Some, [], ap, append-nil, arith, false, filter, if◌then◌else◌, range_with_len, refl, slice_get, suc, sym, true, zero, ℕ, ◌++◌, ◌+◌, ◌<◌, ◌∙◌, ◌∷◌, ◌≡◌}

-- one number more, that passes or not
one_more : (p : ℕ → Bool) (from n : ℕ) → filter p (range_with_len from (suc n)) ≡ filter p (range_with_len from n) ++ (if p (from + n) then (from + n) ∷ [] else [])
one_more p from zero = ap (λ k. if p k then k ∷ [] else []) (omega arith)
one_more p from (suc n) = let same : from + 1 + n ≡ from + suc n = omega arith in step (p from) (one_more p (from + 1) n ∙ ap (λ k. filter p (range_with_len (from + 1) n) ++ (if p k then k ∷ [] else [])) same)
  where
    step : (b : Bool) → filter p (range_with_len (from + 1) (suc n)) ≡ filter p (range_with_len (from + 1) n) ++ (if p (from + suc n) then (from + suc n) ∷ [] else [])
        → (if b then from ∷ filter p (range_with_len (from + 1) (suc n)) else filter p (range_with_len (from + 1) (suc n))) ≡ (if b then from ∷ filter p (range_with_len (from + 1) n) else filter p (range_with_len (from + 1) n)) ++ (if p (from + suc n) then (from + suc n) ∷ [] else [])
    step true e = ap (λ xs. from ∷ xs) e
    step false e = e

next_is : (p : ℕ → Bool) (n : ℕ) (b : Bool) → p n ≡ b → filter p (range_with_len 0 (n + 1)) ≡ filter p (range_with_len 0 n) ++ (if b then n ∷ [] else [])
next_is p n b is =
    let after : n + 1 ≡ suc n = omega arith in
    let here : 0 + n ≡ n = omega arith in
    ap (λ k. filter p (range_with_len 0 k)) after ∙ one_more p 0 n ∙ ap (λ k. filter p (range_with_len 0 n) ++ (if p k then k ∷ [] else [])) here ∙ ap (λ x. filter p (range_with_len 0 n) ++ (if x then n ∷ [] else [])) is

-- the next number passes, and is put behind the others
pub one_passes : (p : ℕ → Bool) (n : ℕ) (old now : List ℕ) → old ≡ filter p (range_with_len 0 n) → p n ≡ true → now ≡ old ++ n ∷ [] → now ≡ filter p (range_with_len 0 (n + 1))
one_passes p n old now before is more = more ∙ ap (λ xs. xs ++ n ∷ []) before ∙ sym (next_is p n true is)

-- .. or does not
pub none_passes : (p : ℕ → Bool) (n : ℕ) (old : List ℕ) → old ≡ filter p (range_with_len 0 n) → p n ≡ false → old ≡ filter p (range_with_len 0 (n + 1))
none_passes p n old before is = before ∙ sym (append-nil (filter p (range_with_len 0 n))) ∙ sym (next_is p n false is)

-- each of them is one of the range that passes
pub of_filter : (p : ℕ → Bool) (from n i a : ℕ) → slice_get (filter p (range_with_len from n)) i ≡ Some a → (a < from + n) × (p a ≡ true)
of_filter p from zero i a e = absurd (cc)
of_filter p from (suc n) i a e = step (λ j found. of_filter p (from + 1) n j a found) (p from) refl i e
  where
    later : (a < from + 1 + n) × (p a ≡ true) → (a < from + suc n) × (p a ≡ true)
    later h = let low = h.0 in (omega (arith, low), h.1)

    step : ((j : ℕ) → slice_get (filter p (range_with_len (from + 1) n)) j ≡ Some a → (a < from + 1 + n) × (p a ≡ true)) → (b : Bool) → p from ≡ b
        → (i : ℕ) → slice_get (if b then from ∷ filter p (range_with_len (from + 1) n) else filter p (range_with_len (from + 1) n)) i ≡ Some a
        → (a < from + suc n) × (p a ≡ true)
    step rest true is zero e = let same : from ≡ a = cc in (omega (arith, same), ap p (sym same) ∙ is)
    step rest true is (suc i) e = later (rest i e)
    step rest false is i e = later (rest i e)
