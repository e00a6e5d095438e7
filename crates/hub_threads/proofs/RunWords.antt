-- The words of the runs that sleep.
use Rattle.blocked_runs.proofs.Cited.{has_either, has_nothing, has_one, has_without}
use Rattle.hub_threads.proofs.Prelude.{Bool, Configuration, IsBlocked, SleepersAreBlocked, ap, arith, bit_and, bit_or, common_steps, false, has_run, has_run_bit, if◌then◌else◌, not, refl, subst, sym, true, ℕ, ◌&&◌, ◌-◌, ◌<◌, ◌==◌, ◌^◌, ◌||◌, ◌∙◌, ◌≡◌}
use Rattle.std.specs.Int.{bit_not, w64}

-- nobody sleeps in the word of zeros
pub none_blocked : (s : Configuration) → SleepersAreBlocked s 0
none_blocked s r sleeps = absurd (let no : false ≡ true = sym (has_nothing r) ∙ sleeps in cc)

-- the word of one bit, of a run that has one
pub one_bit : (r word : ℕ) → 0 < r → r - 1 < 64 → word ≡ 2 ^ (r - 1) → (q : ℕ) → has_run word q ≡ (has_run_bit r && (q == r))
one_bit r word some low is q = ap (λ w. has_run w q) is ∙ has_one r q some low ∙ sym (ap (λ b. b && (q == r)) has)
  where
    has : has_run_bit r ≡ true
    has = grind (arith, common_steps, some, low)

-- the word with the bit of one run more
pub noted : (word bit r : ℕ) → ((q : ℕ) → has_run bit q ≡ (has_run_bit r && (q == r))) → (q : ℕ) → has_run (bit_or word bit) q ≡ (has_run word q || (has_run_bit r && (q == r)))
noted word bit r only q = has_either word bit q ∙ ap (λ b. has_run word q || b) (only q)

-- .. which is the run, or one of the others
pub noted_run : (word : ℕ) (q r : ℕ) (b : Bool) → (has_run word q || (b && (q == r))) ≡ true → (has_run word q ≡ false) → q ≡ r
noted_run word q r b e none = grind (arith, common_steps)

-- a run that is blocked may be noted
pub blocked_noted : (s : Configuration) (word after r : ℕ) → ((q : ℕ) → has_run after q ≡ (has_run word q || (has_run_bit r && (q == r)))) → IsBlocked s r → SleepersAreBlocked s word → SleepersAreBlocked s after
blocked_noted s word after r more own are q sleeps = elim (has_run word q) as (λ b. has_run word q ≡ b → IsBlocked s q) [
  | true ↦ (λ was. are q was)
  | false ↦ (λ none. subst (IsBlocked s) (sym (noted_run word q r (has_run_bit r) (sym (more q) ∙ sleeps) none)) own)
] refl

-- a run of another word may be noted
pub word_noted : (word left after r : ℕ) → ((q : ℕ) → has_run after q ≡ (has_run left q || (has_run_bit r && (q == r)))) → has_run word r ≡ true → ((q : ℕ) → has_run left q ≡ true → has_run word q ≡ true) → (q : ℕ) → has_run after q ≡ true → has_run word q ≡ true
word_noted word left after r more own within q sleeps = elim (has_run left q) as (λ b. has_run left q ≡ b → has_run word q ≡ true) [
  | true ↦ (λ was. within q was)
  | false ↦ (λ none. ap (has_run word) (noted_run left q r (has_run_bit r) (sym (more q) ∙ sleeps) none) ∙ own)
] refl

-- the word, if this holds
pub has_if : (b : Bool) (word r : ℕ) → has_run (if b then word else 0) r ≡ (b && has_run word r)
has_if b word r = elim b as (λ c. has_run (if c then word else 0) r ≡ (c && has_run word r)) [
  | true ↦ refl
  | false ↦ has_nothing r
]

-- those that are called: who was, the restless, those that wait for their place, if this holds, and those that are blocked no more
pub called : (called restless unplaced freed blocked left r : ℕ) (b : Bool) → freed ≡ (if b then unplaced else 0) → left < 2 ^ 64
    → has_run (bit_or called (bit_or (bit_or restless freed) (bit_and blocked (bit_not w64 left)))) r
    ≡ (has_run called r || ((has_run restless r || (b && has_run unplaced r)) || (has_run blocked r && not (has_run left r))))
called before restless unplaced freed blocked left r b are small =
    let some : has_run freed r ≡ (b && has_run unplaced r) = ap (λ word. has_run word r) are ∙ has_if b unplaced r in
    let either : has_run (bit_or restless freed) r ≡ (has_run restless r || (b && has_run unplaced r)) = has_either restless freed r ∙ ap (λ x. has_run restless r || x) some in
    let gone : has_run (bit_and blocked (bit_not w64 left)) r ≡ (has_run blocked r && not (has_run left r)) = has_without blocked left r small in
    let all : has_run (bit_or (bit_or restless freed) (bit_and blocked (bit_not w64 left))) r
    ≡ ((has_run restless r || (b && has_run unplaced r)) || (has_run blocked r && not (has_run left r))) =
    has_either (bit_or restless freed) (bit_and blocked (bit_not w64 left)) r
    ∙ (ap (λ x. x || has_run (bit_and blocked (bit_not w64 left)) r) either ∙ ap (λ x. (has_run restless r || (b && has_run unplaced r)) || x) gone) in
    has_either before (bit_or (bit_or restless freed) (bit_and blocked (bit_not w64 left))) r ∙ ap (λ x. has_run before r || x) all

-- those that wait for their place still
pub rests : (unplaced freed r : ℕ) (b : Bool) → freed ≡ (if b then unplaced else 0) → freed < 2 ^ 64 → has_run (bit_and unplaced (bit_not w64 freed)) r ≡ (not b && has_run unplaced r)
rests unplaced freed r b are small = has_without unplaced freed r small ∙ (ap (λ x. has_run unplaced r && not x) (ap (λ word. has_run word r) are ∙ has_if b unplaced r) ∙ but b (has_run unplaced r))
  where
    but : (c x : Bool) → (x && not (c && x)) ≡ (not c && x)
    but c x = elim c as (λ c. (x && not (c && x)) ≡ (not c && x)) [
      | true ↦ elim x as (λ x. (x && not x) ≡ false) [ true ↦ refl | false ↦ refl ]
      | false ↦ elim x as (λ x. (x && true) ≡ x) [ true ↦ refl | false ↦ refl ]
    ]
