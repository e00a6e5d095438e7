use Rattle.failure_serialization.proofs.RuledEvents.{event_of}
use Rattle.failure_serialization.proofs.events.device_recovered.Goals as goal
use Rattle.failure_serialization.proofs.Prelude.{Back, None, accesses_at, event_place, rules, with_item, ◌≡◌}

pub returns-clause-placed : goal.returns-clause-placed
returns-clause-placed c =
    let at : c.insert.new.self.marks ≡ with_item (event_place c.args.book.now.items None (accesses_at c.args.table.now c.args.d.0) c.args.line.now.marks) (Back c.args.d c.args.n) c.args.line.now.marks = search rules in
    event_of c.args.table.now c.args.line.now.marks c.args.book.now.items None c.args.d (Back c.args.d c.args.n) c.insert.new.self.marks c.requires.device at
