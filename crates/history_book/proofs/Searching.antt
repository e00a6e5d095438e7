-- Searches along numbers, one after another.
use Rattle.history_book.proofs.Prelude.{Bool, None, Option, Some, [], ap, arith, false, find, option_or, range_with_len, refl, suc, sym, true, ℕ, ◌+◌, ◌-◌, ◌<◌, ◌∙◌, ◌∷◌, ◌≡◌, ◌≤◌}

-- the next number, and those behind it
pub next_number : (p : ℕ → Bool) (a n i : ℕ) → i < n → find p (range_with_len (a + i) (n - i)) ≡ option_or (find p ((a + i) ∷ [])) (find p (range_with_len (a + (i + 1)) (n - (i + 1))))
next_number p a n i within =
    let more : n - i ≡ suc (n - (i + 1)) = omega arith in
    let after : (a + i) + 1 ≡ a + (i + 1) = omega arith in
    rw more (ap (λ k. find p ((a + i) ∷ range_with_len k (n - (i + 1)))) after ∙ by_test (p (a + i)) refl)
  where
    by_test : (b : Bool) → p (a + i) ≡ b → find p ((a + i) ∷ range_with_len (a + (i + 1)) (n - (i + 1))) ≡ option_or (find p ((a + i) ∷ [])) (find p (range_with_len (a + (i + 1)) (n - (i + 1))))
    by_test true e = rw e refl
    by_test false e = rw e refl

-- Along numbers

abbrev pub numbers : (ℕ → Bool) → ℕ → ℕ → Option ℕ
numbers p a n = find p (range_with_len a n)

-- none was found up to here, and this number is none
pub past_number : (p : ℕ → Bool) (a n i : ℕ) → i < n → p (a + i) ≡ false → numbers p (a + i) (n - i) ≡ numbers p a n → numbers p (a + (i + 1)) (n - (i + 1)) ≡ numbers p a n
past_number p a n i within none up_to = sym (rw none at (next_number p a n i within)) ∙ up_to

pub here_number : (p : ℕ → Bool) (a n i : ℕ) → i < n → p (a + i) ≡ true → numbers p (a + i) (n - i) ≡ numbers p a n → Some (a + i) ≡ numbers p a n
here_number p a n i within some up_to = sym (rw some at (next_number p a n i within)) ∙ up_to

pub no_number : (p : ℕ → Bool) (a n i : ℕ) → n ≤ i → numbers p (a + i) (n - i) ≡ numbers p a n → None ≡ numbers p a n
no_number p a n i past up_to = sym (ap (numbers p (a + i)) none) ∙ up_to
  where
    none : n - i ≡ 0
    none = omega arith
