use Rattle.failure_serialization.proofs.RuledEvents.{event_of, loss_of}
use Rattle.failure_serialization.proofs.events.device_failed.Goals as goal
use Rattle.failure_serialization.proofs.Prelude.{Failed, accesses_at, event_place, rules, with_item, ◌≡◌}

pub returns-clause-placed : goal.returns-clause-placed
returns-clause-placed c =
    let at : c.insert.new.self.marks ≡ with_item (event_place c.args.book.now.items c.args.first (accesses_at c.args.table.now c.args.d.0) c.args.line.now.marks) (Failed c.args.d c.args.n) c.args.line.now.marks = search rules in
    event_of c.args.table.now c.args.line.now.marks c.args.book.now.items c.args.first c.args.d (Failed c.args.d c.args.n) c.insert.new.self.marks c.requires.device at

pub returns-clause-loses : goal.returns-clause-loses
returns-clause-loses c = loss_of c.args.table.now c.args.line.now.marks c.args.book.now.items c.args.d.0 c.lost_run-lost.result c.requires.device c.lost_run-lost.ensures
