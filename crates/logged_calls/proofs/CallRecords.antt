-- A call and the numbers of its record.
use Rattle.logged_calls.proofs.Prelude.{Added, Began, Bool, Closed, Died, FollowFits, Gave, HasCivilTime, IsCivilTime, IsLoggable, Logged, Lost, None, Opened, Option, Probed, Record, Restood, Sensed, Some, Took, When, Worked, ap, arith, call_of, call_of_kind, digits_time, false, follow_in, if_same, if◌then◌else◌, is_civil, is_some, nat_lt, nat_tests, number_time, record_of, refl, same_record, subst, sym, time_number, true, true≢false, ℕ, ◌^◌, ◌∙◌, ◌≡◌}
use Rattle.home_types.specs.declared.numbers.RunNo.{RunNo}
use Rattle.logged_calls.proofs.TimeDigits.{civil_is, time_round}
use Rattle.std.specs.Option.{option_map}

some_or : {X : Type 0} → X → Option X → X
some_or d None = d
some_or d (Some x) = x

inside : {X : Type 0} (x y : X) → Some x ≡ Some y → x ≡ y
unfolding some_or
inside x y e = ap (some_or x) e

same_self : (r : Record) → same_record r r ≡ true
same_self r = grind (arith, nat_tests)

same_is : (a b : Record) → same_record a b ≡ true → a ≡ b
same_is a b e =
    let kind : a.kind ≡ b.kind = grind (arith, nat_tests, e) in
    let sort : a.sort ≡ b.sort = grind (arith, nat_tests, e) in
    let device : a.device ≡ b.device = grind (arith, nat_tests, e) in
    let value : a.value ≡ b.value = grind (arith, nat_tests, e) in
    let first : a.first ≡ b.first = grind (arith, nat_tests, e) in
    let second : a.second ≡ b.second = grind (arith, nat_tests, e) in
    λ i. record {
      kind = kind i;
      sort = sort i;
      device = device i;
      value = value i;
      first = first i;
      second = second i;
    }

-- the call of the kind of a call's record
follow_round : (routine : ℕ) (follows : Option RunNo) → FollowFits follows → follow_in (record_of (Added routine follows)) ≡ Some follows
follow_round routine None fits = refl
follow_round routine (Some run) fits =
    let small : nat_lt run.0 (2 ^ 32) ≡ true = grind (arith, nat_tests, fits) in
    ap (λ b. if b then Some (Some run) else None) small

kind_round : (call : Logged) → IsLoggable call → call_of_kind (record_of call) ≡ Some call
kind_round (Began at rounds) is = ap (option_map (λ at. Began at rounds)) (time_round at is.0)
kind_round (Added routine follows) is = ap (option_map (λ follows. Added routine follows)) (follow_round routine follows is.1.1)
kind_round (Opened number) is = refl
kind_round (Took run moment) is = refl
kind_round (Gave device ticket Worked moment) is = refl
kind_round (Gave device ticket (Sensed value) moment) is = refl
kind_round (Gave device ticket Died moment) is = refl
kind_round (Probed device) is = refl
kind_round Closed is = refl
kind_round (Restood device value) is = refl
kind_round (Lost device) is = refl

-- a call is read back from its record
pub call_round : (call : Logged) → IsLoggable call → call_of (record_of call) ≡ Some call
call_round call is = ap (if_same (record_of call)) (kind_round call is) ∙ ap (λ b. if b then Some call else None) (same_self (record_of call))

-- the call of a record is of its kind, and has its numbers
if_same_is : (r : Record) (call : Logged) (o : Option Logged) → if_same r o ≡ Some call → (o ≡ Some call) × (record_of call ≡ r)
if_same_is r call None e = absurd (true≢false (sym (ap is_some e)))
if_same_is r call (Some other) e = by (same_record (record_of other) r) refl e
  where
    by : (b : Bool) → same_record (record_of other) r ≡ b → (if b then Some other else None) ≡ Some call → (Some other ≡ Some call) × (record_of call ≡ r)
    by true q e = (e, ap record_of (sym (inside other call e)) ∙ same_is (record_of other) r q)
    by false q e = absurd (true≢false (sym (ap is_some e)))

pub read_is : (r : Record) (call : Logged) → call_of r ≡ Some call → record_of call ≡ r
read_is r call e = (if_same_is r call (call_of_kind r) e).1

civil_told : (n : ℕ) (at : When) → number_time n ≡ Some at → IsCivilTime at
civil_told n at e = by (is_civil (digits_time n)) refl e
  where
    by : (b : Bool) → is_civil (digits_time n) ≡ b → (if b then Some (digits_time n) else None) ≡ Some at → IsCivilTime at
    by true q e = subst IsCivilTime (inside (digits_time n) at e) (civil_is (digits_time n) q)
    by false q e = absurd (true≢false (sym (ap is_some e)))

-- the call of a record has the time of a calendar
pub read_civil : (r : Record) (call : Logged) → call_of r ≡ Some call → HasCivilTime call
read_civil r call e = of_own call (ap call_of_kind (read_is r call e) ∙ (if_same_is r call (call_of_kind r) e).0)
  where
    time_in : Logged → When → When
    time_in (Began at rounds) d = at
    time_in other d = d

    began : (at : When) (rounds n : ℕ) (o : Option When) → number_time n ≡ o → option_map (λ at. Began at rounds) o ≡ Some (Began at rounds) → IsCivilTime at
    began at rounds n None q e = absurd (true≢false (sym (ap is_some e)))
    began at rounds n (Some time) q e = civil_told n at (q ∙ ap Some (ap (λ call. time_in call at) (inside (Began time rounds) (Began at rounds) e)))

    of_own : (call : Logged) → call_of_kind (record_of call) ≡ Some call → HasCivilTime call
    of_own (Began at rounds) e = began at rounds (time_number at) (number_time (time_number at)) refl e
    of_own (Added routine follows) e = tt
    of_own (Opened number) e = tt
    of_own (Took run moment) e = tt
    of_own (Gave device ticket told moment) e = tt
    of_own (Probed device) e = tt
    of_own Closed e = tt
    of_own (Restood device value) e = tt
    of_own (Lost device) e = tt
