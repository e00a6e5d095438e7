use Rattle.window_order.proofs.Prelude.{Ran, arith, front_inserted, untouched}
use Rattle.window_order.proofs.order_states.OrderState.join.Goals as goal

pub seal-requires : goal.seal-requires
seal-requires c =
    let sealed = c.insert.ensures.sealed in
    let more = front_inserted c.args.self.now.line.marks c.args.at c.args.self.now.line.sealed (untouched (Ran c.args.r)) c.requires.place c.requires.behind c.requires.sealed in
    rw c.insert.ensures.marks (omega (arith, more, sealed))
