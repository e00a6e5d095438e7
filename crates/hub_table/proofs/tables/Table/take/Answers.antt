use Rattle.hub_table.proofs.Standing.{goes_in_order}
use Rattle.hub_table.proofs.Holding.{turn_free, turn_keeps}
use Rattle.hub_table.proofs.tables.Table.take.Goals as goal
use Rattle.hub_table.proofs.Prelude.{StoodInOrder, subst, subst₂, sym}

pub put-requires : goal.put-requires
put-requires g c = record { free = turn_free c.self.inside.hub c.take.new.self c.args.r.0 c.args.moment c.in-Go.grip c.slip-slip.result c.self.inside.grips.items c.self.invariant c.in-Go.ensures.turn c.slip-slip.ensures }

pub invariant_of-self : goal.invariant_of-self
invariant_of-self g c = turn_keeps c.self.inside.hub c.take.new.self c.args.r.0 c.args.moment c.in-Go.grip c.slip-slip.result c.self.inside.grips.items c.put.new.hands.items c.self.invariant c.in-Go.ensures.turn c.slip-slip.ensures c.put.ensures

pub returns-in-Go-clause-stood : goal.returns-in-Go-clause-stood
returns-in-Go-clause-stood g c =
    subst (λ hub. StoodInOrder hub c.slip-slip.result c.task-task.result) c.self.view_is
    (subst₂ (λ x y. StoodInOrder c.self.inside.hub x y) (sym c.slip-slip.ensures) (sym c.task-task.ensures)
    (goes_in_order _ c.self.inside.hub c.take.new.self c.args.r.0 c.args.moment c.in-Go.grip c.kept_invariant.ensures c.in-Go.ensures.turn c.kept_invariant-in-Go.ensures))
