use Rattle.window_order.proofs.order_states.OrderState.settle.Goals as goal
use Rattle.window_order.proofs.Prelude.{arith, front_settling}

pub seal-requires : goal.seal-requires
seal-requires c =
    let sealed = c.settle.ensures.sealed in
    let is = c.requires in
    let more = front_settling c.args.r.0 c.args.self.now.line.marks in
    rw c.settle.ensures.marks (omega (arith, sealed, is, more))
