-- What the words of bits of runs say.
use Rattle.blocked_runs.proofs.Prelude.{Bool, ap, arith, bit_and, bit_at, bit_not, bit_or, common_steps, false, has_run, max, min, nat_lt, not, refl, suc, true, w64, zero, ℕ, ◌&&◌, ◌-◌, ◌<◌, ◌==◌, ◌^◌, ◌||◌, ◌∙◌, ◌≡◌, ◌≢◌}
use Rattle.std.proofs.lemmas.Nat.Bits.{bit_at-lt, bit_at-pow_other, bit_at-pow_same, bit_at-zero, bit_at_and, bit_at_not, bit_at_or}

-- the bits of two words together, of both, and of the one and not the other

or_test : (x y : ℕ) → x < 2 → y < 2 → (max x y == 1) ≡ ((x == 1) || (y == 1))
or_test zero zero p q = refl
or_test zero (suc zero) p q = refl
or_test (suc zero) zero p q = refl
or_test (suc zero) (suc zero) p q = refl
or_test zero (suc (suc y)) p q = absurd (omega (arith, q))
or_test (suc zero) (suc (suc y)) p q = absurd (omega (arith, q))
or_test (suc (suc x)) y p q = absurd (omega (arith, p))

and_not_test : (x y : ℕ) → x < 2 → y < 2 → (min x (1 - y) == 1) ≡ ((x == 1) && not (y == 1))
and_not_test zero zero p q = refl
and_not_test zero (suc zero) p q = refl
and_not_test (suc zero) zero p q = refl
and_not_test (suc zero) (suc zero) p q = refl
and_not_test zero (suc (suc y)) p q = absurd (omega (arith, q))
and_not_test (suc zero) (suc (suc y)) p q = absurd (omega (arith, q))
and_not_test (suc (suc x)) y p q = absurd (omega (arith, p))

or_word : (m n i : ℕ) → (bit_at (bit_or m n) i == 1) ≡ ((bit_at m i == 1) || (bit_at n i == 1))
or_word m n i = ap (λ x. x == 1) (bit_at_or m n i) ∙ or_test (bit_at m i) (bit_at n i) (bit_at-lt m i) (bit_at-lt n i)

without_word : (m n i : ℕ) → n < 2 ^ 64 → i < 64 → (bit_at (bit_and m (bit_not w64 n)) i == 1) ≡ ((bit_at m i == 1) && not (bit_at n i == 1))
without_word m n i small low =
    ap (λ x. x == 1) (bit_at_and m (bit_not w64 n) i ∙ ap (min (bit_at m i)) (bit_at_not w64 n i small low)) ∙ and_not_test (bit_at m i) (bit_at n i) (bit_at-lt m i) (bit_at-lt n i)

-- a run has its bit in two words together where it has it in one of them
pub has_either : (m n r : ℕ) → has_run (bit_or m n) r ≡ (has_run m r || has_run n r)
has_either m n r = rw (or_word m n (r - 1)) (by_cases (nat_lt 0 r) (nat_lt (r - 1) 64) (bit_at m (r - 1) == 1) (bit_at n (r - 1) == 1))
  where
    by_cases : (a b x y : Bool) → (a && b && (x || y)) ≡ ((a && b && x) || (a && b && y))
    by_cases a b x y = grind (arith, common_steps)

-- .. and in a word without those of another where it has it in the one and not in the other
pub has_without : (m n r : ℕ) → n < 2 ^ 64 → has_run (bit_and m (bit_not w64 n)) r ≡ (has_run m r && not (has_run n r))
has_without m n r small = elim (nat_lt (r - 1) 64) as (λ b. nat_lt (r - 1) 64 ≡ b → (nat_lt 0 r && b && (bit_at (bit_and m (bit_not w64 n)) (r - 1) == 1)) ≡ ((nat_lt 0 r && b && (bit_at m (r - 1) == 1)) && not (nat_lt 0 r && b && (bit_at n (r - 1) == 1)))) [
  | true ↦ (λ e. let low : r - 1 < 64 = grind (arith, common_steps) in rw (without_word m n (r - 1) small low) (by_cases (nat_lt 0 r) (bit_at m (r - 1) == 1) (bit_at n (r - 1) == 1)))
  | false ↦ (λ e. out (nat_lt 0 r) (bit_at (bit_and m (bit_not w64 n)) (r - 1) == 1) (bit_at m (r - 1) == 1) (bit_at n (r - 1) == 1))
] refl
  where
    by_cases : (a x y : Bool) → (a && true && (x && not y)) ≡ ((a && true && x) && not (a && true && y))
    by_cases a x y = grind (arith, common_steps)

    out : (a x y z : Bool) → (a && false && x) ≡ ((a && false && y) && not (a && false && z))
    out a x y z = grind (arith, common_steps)

-- no run has its bit in the word of zeros
pub has_nothing : (r : ℕ) → has_run 0 r ≡ false
has_nothing r = rw (bit_at-zero (r - 1)) (grind (arith, common_steps))

-- only the run itself has its bit in the word of one bit
pub has_one : (r q : ℕ) → 0 < r → r - 1 < 64 → has_run (2 ^ (r - 1)) q ≡ (q == r)
has_one r q some low = elim (q == r) as (λ b. (q == r) ≡ b → has_run (2 ^ (r - 1)) q ≡ b) [
  | true ↦ (λ e. let same : q ≡ r = grind (arith, common_steps) in rw (same, bit_at-pow_same (r - 1)) (grind (arith, common_steps)))
  | false ↦ (λ e. other e)
] refl
  where
    other : (q == r) ≡ false → has_run (2 ^ (r - 1)) q ≡ false
    other e = elim (nat_lt 0 q) as (λ b. nat_lt 0 q ≡ b → has_run (2 ^ (r - 1)) q ≡ false) [
      | true ↦ (λ h. let apart : q - 1 ≢ r - 1 = grind (arith, common_steps) in rw (bit_at-pow_other (r - 1) (q - 1) apart) (grind (arith, common_steps)))
      | false ↦ (λ h. rw h refl)
    ] refl

-- .. which is all that is asked of the word of one bit
pub only_run : (r word : ℕ) → 0 < r → r - 1 < 64 → word ≡ 2 ^ (r - 1) → (q : ℕ) → has_run word q ≡ (has_run word r && (q == r))
only_run r word some low is q =
    let own : has_run (2 ^ (r - 1)) r ≡ true = has_one r r some low ∙ grind (arith, common_steps) in
    rw (is, has_one r q some low, own) refl
