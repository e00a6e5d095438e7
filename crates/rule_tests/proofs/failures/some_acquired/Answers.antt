use Rattle.rule_tests.proofs.Prelude.{Access, accesses_at, ap, find, first_before, first_of_all, is_acquired, is_some, rules, some_found, some_run, ◌∙◌, ◌≡◌}
use Rattle.rule_tests.proofs.failures.some_acquired.Goals as goal

pub returns : goal.returns
returns c =
    let found : c.first_before.result ≡ first_before (λ (x : Access). is_acquired x.status) 0 (accesses_at c.args.table.now c.args.d.0) = search rules in
    c.is_some.ensures
    ∙ ap is_some (found ∙ first_of_all (λ (x : Access). is_acquired x.status) 0 (accesses_at c.args.table.now c.args.d.0) c.requires.runs)
    ∙ some_run (find (λ (x : Access). is_acquired x.status) (accesses_at c.args.table.now c.args.d.0))
    ∙ some_found (λ (x : Access). is_acquired x.status) (accesses_at c.args.table.now c.args.d.0)
