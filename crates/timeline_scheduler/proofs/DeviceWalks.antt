-- The devices of which a test holds, found by a walk from one to the next.
use Rattle.timeline_scheduler.proofs.Prelude.{Bool, IsFirstFrom, List, None, Some, [], ap, ap₂, arith, cond, false, filter, fold, list_any, range_with_len, suc, sym, true, zero, ℕ, ◌+◌, ◌-◌, ◌<◌, ◌||◌, ◌∙◌, ◌∷◌, ◌≡◌, ◌≤◌}

-- those of so many devices that are left from this one on
abbrev pub rest : (ℕ → Bool) → ℕ → ℕ → List ℕ
rest p n from = filter p (range_with_len from (n - from))

module _ (p : ℕ → Bool) where
  -- none of the first k is one
  skipped : (a k n : ℕ) → ((e : ℕ) → a ≤ e → e < a + k → p e ≡ false) → filter p (range_with_len a (k + n)) ≡ filter p (range_with_len (a + k) n)
  skipped a zero n none = let same : a ≡ a + 0 = omega arith in let size : 0 + n ≡ n = omega arith in ap₂ (λ b k. filter p (range_with_len b k)) same size
  skipped a (suc k) n none =
      let same : a + 1 + k ≡ a + suc k = omega arith in
      let size : suc k + n ≡ suc (k + n) = omega arith in
      ap (λ j. filter p (range_with_len a j)) size
      ∙ ap (λ b. cond b (a ∷ filter p (range_with_len (a + 1) (k + n))) (filter p (range_with_len (a + 1) (k + n)))) (none a (omega arith) (omega arith))
      ∙ skipped (a + 1) k n (λ e from below. none e (omega (arith, from)) (omega (arith, below)))
      ∙ ap (λ b. filter p (range_with_len b n)) same

  -- the next one
  pub rest_next : (n from d : ℕ) → from ≤ d → d < n → p d ≡ true → ((e : ℕ) → from ≤ e → e < d → p e ≡ false) → rest p n from ≡ d ∷ rest p n (d + 1)
  rest_next n from d further within on between =
      let size : n - from ≡ (d - from) + suc (n - (d + 1)) = omega (arith, further, within) in
      let there : from + (d - from) ≡ d = omega (arith, further) in
      ap (λ k. filter p (range_with_len from k)) size
      ∙ skipped from (d - from) (suc (n - (d + 1))) (λ e above below. between e above (omega (arith, below, further)))
      ∙ ap (λ b. filter p (range_with_len b (suc (n - (d + 1))))) there
      ∙ ap (λ b. cond b (d ∷ rest p n (d + 1)) (rest p n (d + 1))) on

  -- none is left
  pub rest_none : (n from : ℕ) → ((e : ℕ) → from ≤ e → p e ≡ false) → rest p n from ≡ []
  rest_none n from none =
      let size : n - from ≡ (n - from) + 0 = omega arith in
      ap (λ k. filter p (range_with_len from k)) size ∙ skipped from (n - from) 0 (λ e above below. none e above)

-- two tests that agree find the same one
pub next_alike : (p q : ℕ → Bool) → ((d : ℕ) → p d ≡ q d) → (from d : ℕ) → IsFirstFrom p from (Some d) → IsFirstFrom q from (Some d)
next_alike p q same from d next = (next.0, sym (same d) ∙ next.1, λ e low high. sym (same e) ∙ next.2 e low high)

pub none_alike : (p q : ℕ → Bool) → ((d : ℕ) → p d ≡ q d) → (from : ℕ) → IsFirstFrom p from None → IsFirstFrom q from None
none_alike p q same from none e low = sym (same e) ∙ none e low

-- A fold over them

module _ {S : Type 0} (step : S → ℕ → S) (p : ℕ → Bool) (total : S) where
  -- one step further
  pub fold_next : (n from d : ℕ) (s t : S) → from ≤ d → d < n → p d ≡ true → ((e : ℕ) → from ≤ e → e < d → p e ≡ false) → t ≡ step s d → fold step s (rest p n from) ≡ total → fold step t (rest p n (d + 1)) ≡ total
  fold_next n from d s t further within on between is was =
      ap (λ k. fold step k (rest p n (d + 1))) is ∙ sym (ap (fold step s) (rest_next p n from d further within on between)) ∙ was

  -- .. and the last one
  pub fold_done : (n from : ℕ) (s : S) → ((e : ℕ) → from ≤ e → p e ≡ false) → fold step s (rest p n from) ≡ total → s ≡ total
  fold_done n from s none was = sym (ap (fold step s) (rest_none p n from none)) ∙ was

-- A test of some of them

module _ (test p : ℕ → Bool) (total : Bool) where
  -- it does not hold of this one
  pub any_next : (n from d : ℕ) → from ≤ d → d < n → p d ≡ true → ((e : ℕ) → from ≤ e → e < d → p e ≡ false) → test d ≡ false → list_any test (rest p n from) ≡ total → list_any test (rest p n (d + 1)) ≡ total
  any_next n from d further within on between fails was =
      sym (ap (λ b. b || list_any test (rest p n (d + 1))) fails) ∙ sym (ap (list_any test) (rest_next p n from d further within on between)) ∙ was

  -- it holds of this one
  pub any_found : (n from d : ℕ) → from ≤ d → d < n → p d ≡ true → ((e : ℕ) → from ≤ e → e < d → p e ≡ false) → test d ≡ true → list_any test (rest p n from) ≡ total → true ≡ total
  any_found n from d further within on between holds was =
      sym (ap (λ b. b || list_any test (rest p n (d + 1))) holds) ∙ sym (ap (list_any test) (rest_next p n from d further within on between)) ∙ was

  -- it holds of none
  pub any_done : (n from : ℕ) → ((e : ℕ) → from ≤ e → p e ≡ false) → list_any test (rest p n from) ≡ total → false ≡ total
  any_done n from none was = sym (ap (list_any test) (rest_none p n from none)) ∙ was
