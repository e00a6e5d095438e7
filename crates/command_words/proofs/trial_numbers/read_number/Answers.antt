use Rattle.command_words.proofs.TrialLemmas.{number_refused, number_taken}
use Rattle.command_words.proofs.trial_numbers.read_number.Goals as goal
use Rattle.command_words.proofs.Prelude.{is_short_numeral, rules, true, ◌≡◌, ◌≤◌}

pub returns-in-Ok : goal.returns-in-Ok
returns-in-Ok c =
    let word = c.args.word.now in
    let numeral : is_short_numeral word ≡ true = search rules in
    let most : c.in-Ok.number ≤ 288 = search rules in
    number_taken word c.parse.result numeral c.parse.ensures.value.0 c.in-Ok.number c.in-Ok.is most

pub returns-in_default-2 : goal.returns-in_default-2
returns-in_default-2 c =
    let word = c.args.word.now in
    let numeral : is_short_numeral word ≡ true = search rules in
    number_refused word c.parse.result numeral c.parse.ensures.value.0 c.in_default.field-0 c.in_default.is
