use Rattle.failure_serialization.proofs.Unsealed.{event_unsealed}
use Rattle.failure_serialization.proofs.places.event_place.Goals as goal
use Rattle.failure_serialization.proofs.Prelude.{accesses_at, arith, event_place, rules, ◌≡◌}

pub returns-in-Some-clause-unsealed : goal.returns-in-Some-clause-unsealed
returns-in-Some-clause-unsealed c =
    let place : c.unwrap_or.result ≡ event_place c.args.book.now.items c.args.first (accesses_at c.args.table.now c.args.d.0) c.args.line.now.marks = search rules in
    let behind = event_unsealed c.args.book.now.items c.args.first (accesses_at c.args.table.now c.args.d.0) c.args.line.now c.requires.unsealed c.len.ensures.sealed in
    omega (arith, place, behind)
