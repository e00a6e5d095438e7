use Rattle.rule_tests.proofs.Prelude.{ap, is_run, ◌∙◌}
use Rattle.rule_tests.proofs.failures.line.Goals as goal

pub insert-requires-clause-known : goal.insert-requires-clause-known
insert-requires-clause-known c = ap (λ rs. is_run rs 1) c.reserve.ensures.runs ∙ c.in_ok-line.ensures.runs.there 1 ∙ c.requires.there
