use Rattle.order_checker.proofs.Numbers.{number-read, number-refused, numeral-utf8}
use Rattle.order_checker.proofs.words.number_of.Goals as goal
use Rattle.order_checker.proofs.Prelude.{Err, Ok, is_numeral, subst, sym, true, ℕ, ◌≡◌}
use Rattle.std.specs.Str.Parse.{ParsesUnsigned}

pub returns-in-Ok-parse : goal.returns-in-Ok-parse
returns-in-Ok-parse c =
    let numeral : is_numeral c.args.word.now ≡ true = sym c.if-not-is_numeral.ensures in
    sym (number-read c.args.word.now c.in-Ok-parse.number numeral (subst (λ text. ParsesUnsigned {E = ℕ} 64 10 text (Ok c.in-Ok-parse.number)) c.in-Ok.ensures.cases.0 c.in-Ok-parse.ensures.value.0))

pub returns-in-Err-parse : goal.returns-in-Err-parse
returns-in-Err-parse c =
    let numeral : is_numeral c.args.word.now ≡ true = sym c.if-not-is_numeral.ensures in
    sym (number-refused c.args.word.now numeral (subst (λ text. ParsesUnsigned {E = ℕ} 64 10 text (Err 0)) c.in-Ok.ensures.cases.0 c.in-Err-parse.ensures.value.0))

pub returns-in-Err : goal.returns-in-Err
returns-in-Err c = absurd (c.in-Err.ensures.cases.0 (numeral-utf8 c.args.word.now (sym c.if-not-is_numeral.ensures)))
