use Rattle.window_order.proofs.Prelude.{Ran, ap, arith, front_without, stands, sym, take, ◌∙◌}
use Rattle.window_order.proofs.order_states.OrderState.withdraw.Goals as goal

pub seal-requires : goal.seal-requires
seal-requires c =
    let none = ap (λ k. stands (Ran c.args.r) (take k c.args.self.now.line.marks)) (sym c.requires.sealed) ∙ c.requires.live in
    let sealed = c.remove.ensures.sealed in
    let is = c.requires.sealed in
    let more = front_without c.args.r c.args.self.now.line.marks none in
    rw c.remove.ensures.marks (omega (arith, sealed, is, more))
