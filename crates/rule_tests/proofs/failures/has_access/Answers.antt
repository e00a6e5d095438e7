use Rattle.rule_tests.proofs.Prelude.{accesses_at, ap, is_of, is_some, some_found, ◌∙◌}
use Rattle.rule_tests.proofs.failures.has_access.Goals as goal

pub returns : goal.returns
returns c = c.is_some.ensures ∙ ap is_some c.access.ensures ∙ some_found (is_of c.args.r.0) (accesses_at c.args.table.now c.args.d.0)
