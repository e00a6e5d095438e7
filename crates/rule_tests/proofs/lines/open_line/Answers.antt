use Rattle.rule_tests.proofs.Prelude.{ap, is_run, ◌∙◌}
use Rattle.rule_tests.proofs.lines.open_line.Goals as goal

pub returns-clause-one : goal.returns-clause-one
returns-clause-one c = ap (λ rs. is_run rs 1) c.reserve.ensures.runs ∙ c.in_ok-line.ensures.runs.there 1 ∙ c.in_ok-roster.ensures.one

pub returns-clause-two : goal.returns-clause-two
returns-clause-two c = ap (λ rs. is_run rs 2) c.reserve.ensures.runs ∙ c.in_ok-line.ensures.runs.there 2 ∙ c.in_ok-roster.ensures.two
