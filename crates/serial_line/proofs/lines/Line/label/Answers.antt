use Rattle.serial_line.proofs.Labels.{in_order}
use Rattle.serial_line.proofs.lines.Line.label.Goals as goal
use Rattle.serial_line.proofs.Prelude.{LabelsRise, subst}

pub returns-in-Some-clause-in_order : goal.returns-in-Some-clause-in_order
returns-in-Some-clause-in_order c = in_order c.args.self.now (subst (λ s. LabelsRise 0 s.labels) c.self.view_is c.self.invariant.labels.rising)

pub returns-in-None-clause-in_order : goal.returns-in-None-clause-in_order
returns-in-None-clause-in_order c = in_order c.args.self.now (subst (λ s. LabelsRise 0 s.labels) c.self.view_is c.self.invariant.labels.rising)
