use Rattle.hub_table.proofs.Prelude.{IsProbed, Some, StaysSealed, StoodInOrder, configuration_of, read_of, subst, subst₂, sym}
use Rattle.hub_table.proofs.Holding.{probe_free, probe_keeps}
use Rattle.hub_table.proofs.Standing.{probes_in_order}
use Rattle.hub_table.proofs.tables.Table.probe.Goals as goal

pub put-requires : goal.put-requires
put-requires g c = record { free = probe_free c.self.inside.hub c.take_probe.new.self c.args.d.0 c.in-Some.grip c.self.inside.grips.items c.self.invariant c.in-Some.ensures.probed }

pub invariant_of-self : goal.invariant_of-self
invariant_of-self g c = probe_keeps c.self.inside.hub c.take_probe.new.self c.args.d.0 c.in-Some.grip c.self.inside.grips.items c.put.new.hands.items c.self.invariant c.in-Some.ensures.probed c.put.ensures

pub returns-in-Some-clause-probed : goal.returns-in-Some-clause-probed
returns-in-Some-clause-probed g c = (
  Some c.in-Some.grip,
  subst (λ s. IsProbed s c.args.d.0 (Some c.in-Some.grip) c.take_probe.new.self) c.self.view_is c.in-Some.ensures.probed,
  λ i. Some (c.slip-slip.ensures i, c.task-task.ensures i),
)

pub returns-in-Some-clause-sealed : goal.returns-in-Some-clause-sealed
returns-in-Some-clause-sealed g c =
    subst (λ s. StaysSealed (read_of (configuration_of s)) (read_of (configuration_of c.take_probe.new.self))) c.self.view_is c.in-Some.ensures.sealed

pub returns-in-Some-clause-stood : goal.returns-in-Some-clause-stood
returns-in-Some-clause-stood g c =
    subst (λ hub. StoodInOrder hub c.slip-slip.result c.task-task.result) c.self.view_is
    (subst₂ (λ x y. StoodInOrder c.self.inside.hub x y) (sym c.slip-slip.ensures) (sym c.task-task.ensures)
    (probes_in_order _ c.self.inside.hub c.take_probe.new.self c.args.d.0 c.in-Some.grip c.kept_invariant.ensures c.in-Some.ensures.probed c.kept_invariant-in-Some.ensures))
