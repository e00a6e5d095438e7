-- The runs that have not ended, as the bits of a word.
use Rattle.run_replay.proofs.Prelude.{AreLiveRuns, Bool, List, PlayerIsKept, PlayerState, [], ap, arith, bit_and, bit_or, common_steps, configuration_of, false, inl, inr, is_ended, is_run, is_some, length, nat_lt, not, read_of, refl, slice_get, subst, suc, sym, true, zero, ℕ, ◌%◌, ◌&&◌, ◌+◌, ◌-◌, ◌/◌, ◌<◌, ◌==◌, ◌^◌, ◌||◌, ◌∙◌, ◌∷◌, ◌≡◌, ◌≢◌, ◌≤◌}
use Rattle.blocked_runs.proofs.Cited.{has_either, has_nothing, has_without}
use Rattle.blocked_runs.specs.RunBits.{has_run}
use Rattle.run_replay.proofs.Settings.{at_or_past}
use Rattle.std.proofs.lemmas.Bool.{eqb-false}
use Rattle.std.proofs.lemmas.Nat.Bits.{bit_at-trailing_zeros, bit_at-zero}
use Rattle.std.proofs.lemmas.Nat.{shr-shr, shr_le}
use Rattle.std.specs.Int.{bit_at, bit_not, trailing_zeros, w64}

-- One run more, and one less

pub with_others : (word one r q : ℕ) → ((x : ℕ) → has_run one x ≡ (has_run one r && (x == r))) → q ≢ r → has_run (bit_or word one) q ≡ has_run word q
with_others word one r q only other = has_either word one q ∙ ap (λ b. has_run word q || b) (only q) ∙ by_test (q == r) refl
  where
    none : (a b : Bool) → (a || (b && false)) ≡ a
    none true true = refl
    none true false = refl
    none false true = refl
    none false false = refl

    by_test : (b : Bool) → (q == r) ≡ b → (has_run word q || (has_run one r && (q == r))) ≡ has_run word q
    by_test true is = absurd (other (grind (arith, common_steps)))
    by_test false is = rw is (none (has_run word q) (has_run one r))

pub with_own : (word one r : ℕ) → has_run one r ≡ true → has_run (bit_or word one) r ≡ true
with_own word one r own = has_either word one r ∙ ap (λ b. has_run word r || b) own ∙ all (has_run word r)
  where
    all : (b : Bool) → (b || true) ≡ true
    all true = refl
    all false = refl

-- no word has a bit of a number that is no run's
no_run : (word one r : ℕ) → (0 < r → r < 65 → has_run one r ≡ true) → has_run one r ≡ false → has_run word r ≡ false
no_run word one r own is = elim (nat_lt 0 r) as (λ b. nat_lt 0 r ≡ b → (b && nat_lt (r - 1) 64 && (bit_at word (r - 1) == 1)) ≡ false) [
  | true ↦ (λ e. elim (nat_lt (r - 1) 64) as (λ b. nat_lt (r - 1) 64 ≡ b → (true && b && (bit_at word (r - 1) == 1)) ≡ false) [
    | true ↦ (λ h. absurd (
        let some : 0 < r = grind (arith, common_steps) in
        let low : r - 1 < 64 = grind (arith, common_steps) in
        let no : true ≡ false = sym (own some (omega (arith, low))) ∙ is in cc))
    | false ↦ (λ h. refl)
  ] refl)
  | false ↦ (λ e. refl)
] refl

pub without_one : (word one r q : ℕ) → one < 2 ^ 64 → ((x : ℕ) → has_run one x ≡ (has_run one r && (x == r))) → (0 < r → r < 65 → has_run one r ≡ true) → has_run (bit_and word (bit_not w64 one)) q ≡ (has_run word q && not (q == r))
without_one word one r q small only own = has_without word one q small ∙ ap (λ b. has_run word q && not b) (only q) ∙ by_run (has_run one r) refl
  where
    by_own : has_run word r ≡ false → (b : Bool) → (q == r) ≡ b → (has_run word q && true) ≡ (has_run word q && not b)
    by_own none false e = refl
    by_own none true e = let same : q ≡ r = grind (arith, common_steps) in let gone : has_run word q ≡ false = ap (has_run word) same ∙ none in ap (λ b. b && true) gone ∙ ap (λ b. b && false) (sym gone)

    by_run : (b : Bool) → has_run one r ≡ b → (has_run word q && not (b && (q == r))) ≡ (has_run word q && not (q == r))
    by_run true is = refl
    by_run false is = by_own (no_run word one r own is) (q == r) refl

-- The first run from one on

shifted : (word j i : ℕ) → bit_at (word / 2 ^ j) i ≡ bit_at word (j + i)
shifted word j i = ap (λ n. n % 2) (shr-shr word j i)

module _ (word from : ℕ) (some : 0 < from) where
  bit_of : (q : ℕ) → from ≤ q → bit_at (word / 2 ^ (from - 1)) (q - from) ≡ bit_at word (q - 1)
  bit_of q low = let place : from - 1 + (q - from) ≡ q - 1 = omega (arith, some, low) in shifted word (from - 1) (q - from) ∙ ap (bit_at word) place

  clear : (q : ℕ) → from ≤ q → bit_at (word / 2 ^ (from - 1)) (q - from) ≡ 0 → has_run word q ≡ false
  clear q low e = let here : bit_at word (q - 1) ≡ 0 = sym (bit_of q low) ∙ e in rw here (grind (arith, common_steps))

  pub none_from : word / 2 ^ (from - 1) ≡ 0 → (q : ℕ) → from ≤ q → has_run word q ≡ false
  none_from gone q low = clear q low (ap (λ w. bit_at w (q - from)) gone ∙ bit_at-zero (q - from))

  module _ (small : word < 2 ^ 64) (more : word / 2 ^ (from - 1) ≢ 0) where
    lowest : (trailing_zeros w64 (word / 2 ^ (from - 1)) < 64) × (bit_at (word / 2 ^ (from - 1)) (trailing_zeros w64 (word / 2 ^ (from - 1))) ≡ 1) × ((i : ℕ) → i < trailing_zeros w64 (word / 2 ^ (from - 1)) → bit_at (word / 2 ^ (from - 1)) i ≡ 0)
    lowest =
        let less : word / 2 ^ (from - 1) ≤ word = shr_le word (from - 1) in
        bit_at-trailing_zeros w64 (word / 2 ^ (from - 1)) (omega (arith, more)) (omega (arith, small, less))

    pub first_passed : (q : ℕ) → from ≤ q → q < from + trailing_zeros w64 (word / 2 ^ (from - 1)) → has_run word q ≡ false
    first_passed q low high = clear q low (lowest.2 (q - from) (omega (arith, low, high)))

    pub first_found : from + trailing_zeros w64 (word / 2 ^ (from - 1)) < 65 → has_run word (from + trailing_zeros w64 (word / 2 ^ (from - 1))) ≡ true
    first_found low = found (trailing_zeros w64 (word / 2 ^ (from - 1))) lowest.1 low
      where
        found : (t : ℕ) → bit_at (word / 2 ^ (from - 1)) t ≡ 1 → from + t < 65 → has_run word (from + t) ≡ true
        found t one low =
            let place : from - 1 + t ≡ from + t - 1 = omega (arith, some) in
            let here : bit_at word (from + t - 1) ≡ 1 = sym (shifted word (from - 1) t ∙ ap (bit_at word) place) ∙ one in
            rw here (grind (arith, common_steps))

-- of both words
pub passed_over : (a b : Bool) → (a && not b) ≡ false → a ≡ true → b ≡ true
passed_over true true e is = refl
passed_over true false e is = absurd (cc)
passed_over false b e is = absurd (cc)

pub front : (a b : Bool) → (a && not b) ≡ true → a ≡ true
front true b e = refl
front false b e = absurd (cc)

-- The numbers of actors

within : {A : Type 0} (xs : List A) (i : ℕ) → is_some (slice_get xs i) ≡ true → i < length xs
within [] i e = absurd (cc)
within (x ∷ xs) zero e = omega arith
within (x ∷ xs) (suc i) e = let low = within xs i e in omega (arith, low)

-- an actor that has not ended is one of the window
pub live_low : {D : Type 0} (s : PlayerState D) (a : ℕ) → PlayerIsKept s → is_ended s a ≡ false → a < length s.grips
live_low s zero kept on = let actors = kept.actors in omega (arith, actors)
live_low s (suc r) kept on =
    let low = within s.hub.setting.runs r (by_run (is_run s.hub.setting.runs (suc r)) (is_some ((read_of (configuration_of s.hub)).run (suc r)).ended) on) in
    let actors = kept.actors in
    omega (arith, low, actors)
  where
    by_run : (a b : Bool) → (not a || b) ≡ false → a ≡ true
    by_run true b e = refl
    by_run false b e = absurd (cc)

-- after a step that ends no actor the word stays
pub runs_stay : {D : Type 0} (s t : PlayerState D) (word a : ℕ) → AreLiveRuns word s → ((q : ℕ) → q ≢ a → is_ended t q ≡ is_ended s q) → is_ended t a ≡ is_ended s a → AreLiveRuns word t
runs_stay s t word a live others own r run = live r run ∙ ap not (by_actor (r == a) refl)
  where
    by_actor : (b : Bool) → (r == a) ≡ b → is_ended s r ≡ is_ended t r
    by_actor true is = let same : r ≡ a = grind (arith, common_steps) in ap (is_ended s) same ∙ sym own ∙ ap (is_ended t) (sym same)
    by_actor false is = sym (others r (eqb-false r a is))

-- .. and one that has ended is taken out
pub run_leaves : {D : Type 0} (s t : PlayerState D) (word new a : ℕ) → AreLiveRuns word s → ((q : ℕ) → has_run new q ≡ (has_run word q && not (q == a))) → ((q : ℕ) → q ≢ a → is_ended t q ≡ is_ended s q) → is_ended t a ≡ true → AreLiveRuns new t
run_leaves s t word new a live left others over r run = left r ∙ by_actor (r == a) refl
  where
    none : (b : Bool) → (b && false) ≡ false
    none true = refl
    none false = refl

    all : (b : Bool) → (b && true) ≡ b
    all true = refl
    all false = refl

    by_actor : (b : Bool) → (r == a) ≡ b → (has_run word r && not (r == a)) ≡ not (is_ended t r)
    by_actor true is = let same : r ≡ a = grind (arith, common_steps) in let gone : is_ended t r ≡ true = ap (is_ended t) same ∙ over in ap (λ b. has_run word r && not b) is ∙ none (has_run word r) ∙ sym (ap not gone)
    by_actor false is = ap (λ b. has_run word r && not b) is ∙ all (has_run word r) ∙ live r run ∙ ap not (sym (others r (eqb-false r a is)))

-- At the opening

-- the runs below this number that have not ended, and none from it on
pub record AreLiveBelow {D : Type 0} (s : PlayerState D) (word end : ℕ) : Type 0 where
  pub below : (r : ℕ) → 0 < r → r < end → has_run word r ≡ not (is_ended s r)
  pub above : (r : ℕ) → end ≤ r → has_run word r ≡ false

pub none_below : {D : Type 0} (s : PlayerState D) → AreLiveBelow s 0 0
none_below s = record { below = λ r run low. absurd (omega (arith, low)); above = λ r past. has_nothing r }

pub one_lives : {D : Type 0} (s : PlayerState D) (word new end after : ℕ) → AreLiveBelow s word end → is_ended s end ≡ false → end < 65 → ((q : ℕ) → q ≢ end → has_run new q ≡ has_run word q) → (0 < end → end < 65 → has_run new end ≡ true) → after ≡ end + 1 → AreLiveBelow s new after
one_lives s word new end after before on low others own is = record {
  below = λ r run high. elim (at_or_past r end (omega (arith, high, is))) [
    | inl same ↦ subst (λ x. has_run new x ≡ not (is_ended s x)) same (own (omega (arith, run, same)) low ∙ sym (ap not on))
    | inr more ↦ others r (λ e. absurd (omega (arith, e, more))) ∙ before.below r run (omega (arith, more))
  ];
  above = λ r past. others r (λ e. absurd (omega (arith, e, past, is))) ∙ before.above r (omega (arith, past, is));
}

pub one_has_ended : {D : Type 0} (s : PlayerState D) (word end after : ℕ) → AreLiveBelow s word end → is_ended s end ≡ true → after ≡ end + 1 → AreLiveBelow s word after
one_has_ended s word end after before over is = record {
  below = λ r run high. elim (at_or_past r end (omega (arith, high, is))) [
    | inl same ↦ subst (λ x. has_run word x ≡ not (is_ended s x)) same (before.above end (omega arith) ∙ sym (ap not over))
    | inr more ↦ before.below r run (omega (arith, more))
  ];
  above = λ r past. before.above r (omega (arith, past, is));
}

pub all_live : {D : Type 0} (s : PlayerState D) (word end : ℕ) → PlayerIsKept s → end ≡ length s.grips → AreLiveBelow s word end → AreLiveRuns word s
all_live s word end kept size are r run = elim (nat_lt r end) as (λ b. nat_lt r end ≡ b → has_run word r ≡ not (is_ended s r)) [
  | true ↦ (λ e. are.below r run (grind (arith, common_steps)))
  | false ↦ (λ e. let past : end ≤ r = grind (arith, common_steps) in are.above r past ∙ sym (ap not (beyond past (is_ended s r) refl)))
] refl
  where
    beyond : end ≤ r → (b : Bool) → is_ended s r ≡ b → is_ended s r ≡ true
    beyond past true is = is
    beyond past false is = absurd (let low = live_low s r kept is in omega (arith, low, past, size))
