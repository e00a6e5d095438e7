use Rattle.failure_serialization.proofs.FirstAccesses.{first_of_all}
use Rattle.failure_serialization.proofs.places.first_waiting.Goals as goal
use Rattle.failure_serialization.proofs.Prelude.{accesses_at, first_before, rules, waits, ◌∙◌, ◌≡◌}

pub returns : goal.returns
returns c =
    let found : c.first_before.result ≡ first_before (waits c.args.book.now.items c.args.first) 0 (accesses_at c.args.table.now c.args.d.0) = search rules in
    found ∙ first_of_all (waits c.args.book.now.items c.args.first) 0 (accesses_at c.args.table.now c.args.d.0) c.requires.runs
