use Rattle.rule_tests.proofs.Prelude.{Access, accesses_at, accesses_before, ap, find, first_before, is_scheduled, is_some, rules, some_found, some_run, ◌∙◌, ◌≡◌}
use Rattle.rule_tests.proofs.failures.some_scheduled_before.Goals as goal

pub returns : goal.returns
returns c =
    let found : c.first_before.result ≡ first_before (λ (x : Access). is_scheduled x.status) 1 (accesses_at c.args.table.now c.args.d.0) = search rules in
    c.is_some.ensures
    ∙ ap is_some found
    ∙ some_run (find (λ (x : Access). is_scheduled x.status) (accesses_before 1 (accesses_at c.args.table.now c.args.d.0)))
    ∙ some_found (λ (x : Access). is_scheduled x.status) (accesses_before 1 (accesses_at c.args.table.now c.args.d.0))
