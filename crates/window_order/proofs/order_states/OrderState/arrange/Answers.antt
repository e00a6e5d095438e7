use Rattle.window_order.proofs.KeptFronts.{front_rearranged}
use Rattle.window_order.proofs.order_states.OrderState.arrange.Goals as goal
use Rattle.window_order.specs.OrderStates.{arranged}
use Rattle.window_order.proofs.Prelude.{ap, inl, inr, sym, ◌∙◌}

pub rearrange-requires : goal.rearrange-requires
rearrange-requires c = let may = c.requires.flags c.in-Timeline.is in record { size = may.size; closed = may.closed; sealed = may.sealed }

pub returns-in-Fcfs-clause-marks : goal.returns-in-Fcfs-clause-marks
returns-in-Fcfs-clause-marks c = elim c.in-Fcfs.is [
  | inl first ↦ sym (ap (λ s. arranged s c.args.before.now c.args.self.now.line.marks) first)
  | inr late ↦ sym (ap (λ s. arranged s c.args.before.now c.args.self.now.line.marks) late)
]

pub returns-in-Timeline-clause-marks : goal.returns-in-Timeline-clause-marks
returns-in-Timeline-clause-marks c = c.rearrange.ensures.marks ∙ sym (ap (λ s. arranged s c.args.before.now c.args.self.now.line.marks) c.in-Timeline.is)

pub returns-in-Timeline-clause-front : goal.returns-in-Timeline-clause-front
returns-in-Timeline-clause-front c =
    let may = c.requires.flags c.in-Timeline.is in
    rw (c.rearrange.ensures.sealed, c.rearrange.ensures.marks) (front_rearranged c.args.before.now c.args.self.now.line.marks c.args.self.now.line.sealed may.sealed c.requires.sealed)
