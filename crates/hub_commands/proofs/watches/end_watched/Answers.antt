use Rattle.hub_commands.proofs.watches.end_watched.Goals as goal
use Rattle.hub_commands.proofs.Prelude.{Fault, None, Option, Some, board_line, false, is_some, refl, subst, sym, written, ◌≡◌}
use Rattle.hub_commands.specs.LastLines.{LineEnds}

none_there : (o : Option Fault) → is_some o ≡ false → o ≡ None
none_there None none = refl
none_there (Some fault) none = absurd (cc)

pub returns-clause-ends : goal.returns-clause-ends
returns-clause-ends g c =
    let K = g.K.Sink in
    let sink = written (K.holds c.args.sink.now) (K.holds c.end_with_line.new.sink) (K.faults c.args.sink.now) (K.faults c.end_with_line.new.sink) in
    let none = none_there c.args.finish.fault (sym c.if-is_some.ensures) in
    subst (λ (fault : Option Fault). LineEnds (board_line c.args.seen) sink c.args.finish.day fault c.end_with_line.result.day c.end_with_line.result.fault) (sym none)
    (c.end_with_line.ensures.ends (board_line c.args.seen) c.board_line.ensures)
