use Rattle.command_words.proofs.OptionLaw.{options_are_by_words}
use Rattle.command_words.proofs.OptionLemmas.{marked, unmarked}
use Rattle.command_words.proofs.option_words.read_options.Goals as goal
use Rattle.command_words.proofs.Prelude.{IfOk, Some, map, rules, string_bytes, subst, sym, ◌∙◌, ◌≡◌}

pub returns-then-has_end_mark-clause-refused : goal.returns-then-has_end_mark-clause-refused
returns-then-has_end_mark-clause-refused c = λ _.
    sym (options_are_by_words (map string_bytes c.args.words.now)) ∙ marked string_bytes c.args.words.now (search rules)

pub returns-clause-meaning : goal.returns-clause-meaning
returns-clause-meaning c =
    let words = map string_bytes c.args.words.now in
    subst (λ o. IfOk c.read_with_clap.result (λ options. o ≡ Some options))
    (sym (unmarked string_bytes c.args.words.now (search rules)) ∙ options_are_by_words words) c.read_with_clap.ensures.meaning

pub returns-clause-refused : goal.returns-clause-refused
returns-clause-refused c = λ is.
    sym (options_are_by_words (map string_bytes c.args.words.now)) ∙ unmarked string_bytes c.args.words.now (search rules) ∙ c.read_with_clap.ensures.refused is
