-- A time and the number of its digits.
use Rattle.logged_calls.proofs.Prelude.{IsCivilTime, None, Some, When, ap, arith, digits_time, if◌then◌else◌, is_civil, nat_tests, number_time, time_number, true, ◌%◌, ◌/◌, ◌∙◌, ◌≡◌}
use Rattle.std.proofs.lemmas.Grind.{common_steps}

pub is_civil_true : (t : When) → IsCivilTime t → is_civil t ≡ true
is_civil_true t is =
    let year = is.year in
    let month = is.month in
    let day = is.day in
    let hour = is.hour in
    let minute = is.minute in
    let second = is.second in
    grind (arith, nat_tests, common_steps)

pub civil_is : (t : When) → is_civil t ≡ true → IsCivilTime t
civil_is t e = record {
  year = grind (arith, nat_tests, e);
  month = (grind (arith, nat_tests, e), grind (arith, nat_tests, e));
  day = (grind (arith, nat_tests, e), grind (arith, nat_tests, e));
  hour = grind (arith, nat_tests, e);
  minute = grind (arith, nat_tests, e);
  second = grind (arith, nat_tests, e);
}

digits_are : (t : When) → IsCivilTime t → digits_time (time_number t) ≡ t
digits_are t is =
    let year : time_number t / 10000000000 ≡ t.year = omega (arith, is.year, is.month, is.day, is.hour, is.minute, is.second) in
    let month : time_number t / 100000000 % 100 ≡ t.month = omega (arith, is.month, is.day, is.hour, is.minute, is.second) in
    let day : time_number t / 1000000 % 100 ≡ t.day = omega (arith, is.month, is.day, is.hour, is.minute, is.second) in
    let hour : time_number t / 10000 % 100 ≡ t.hour = omega (arith, is.month, is.day, is.hour, is.minute, is.second) in
    let minute : time_number t / 100 % 100 ≡ t.minute = omega (arith, is.month, is.day, is.hour, is.minute, is.second) in
    let second : time_number t % 100 ≡ t.second = omega (arith, is.month, is.day, is.hour, is.minute, is.second) in
    λ i. record {
      year = year i;
      month = month i;
      day = day i;
      hour = hour i;
      minute = minute i;
      second = second i;
    }

pub time_round : (t : When) → IsCivilTime t → number_time (time_number t) ≡ Some t
time_round t is =
    let same = digits_are t is in
    ap (λ t. if is_civil t then Some t else None) same ∙ ap (λ b. if b then Some t else None) (is_civil_true t is)
