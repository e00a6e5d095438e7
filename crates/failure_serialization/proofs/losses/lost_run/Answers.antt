use Rattle.failure_serialization.proofs.FirstAccesses.{first_of_all}
use Rattle.failure_serialization.proofs.losses.lost_run.Goals as goal
use Rattle.failure_serialization.proofs.Prelude.{accesses_at, first_before, is_lost, rules, ◌∙◌, ◌≡◌}

pub returns : goal.returns
returns c =
    let found : c.first_before.result ≡ first_before (is_lost c.args.book.now.items) 0 (accesses_at c.args.table.now c.args.d.0) = search rules in
    found ∙ first_of_all (is_lost c.args.book.now.items) 0 (accesses_at c.args.table.now c.args.d.0) c.requires.runs
