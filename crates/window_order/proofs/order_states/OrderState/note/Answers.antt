use Rattle.window_order.proofs.NotedAnswers.{noted_by_one, noted_by_two, waits_behind}
use Rattle.window_order.proofs.order_states.OrderState.note.Goals as goal

pub pass_before-requires-clause-waiting : goal.pass_before-requires-clause-waiting
pass_before-requires-clause-waiting c =
    waits_behind c.args.r.0 c.args.d.0 c.args.told.view c.args.told.wrote c.args.told.is_last c.args.self.now.table c.requires.device c.requires.turn (c.kept_invariant.ensures c.args.d.0) c.note.new.self c.if-not-note.ensures.turn c.if-not-note.ensures.noted

pub returns-then-not-note-clause-table : goal.returns-then-not-note-clause-table
returns-then-not-note-clause-table c =
    noted_by_two c.args.r.0 c.args.d.0 c.args.told.view c.args.told.wrote c.args.told.is_last c.args.self.now.table c.requires.device c.requires.turn (c.kept_invariant.ensures c.args.d.0) c.note.new.self c.if-not-note.ensures.turn c.if-not-note.ensures.noted
    c.pass_before.new.table c.note-then-not-note.new.self c.note-then-not-note.result c.pass_before.ensures.passed c.pass_before.ensures.first c.note-then-not-note.ensures.turn c.note-then-not-note.ensures.noted

pub returns-else-not-note-clause-table : goal.returns-else-not-note-clause-table
returns-else-not-note-clause-table c =
    noted_by_one c.args.r.0 c.args.d.0 c.args.told.view c.args.told.wrote c.args.told.is_last c.args.self.now.table c.requires.device c.requires.turn c.note.new.self c.if-not-note.ensures.turn c.if-not-note.ensures.noted
