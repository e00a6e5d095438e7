use Rattle.home_states.proofs.InOrder.{steps_in_order}
use Rattle.home_states.proofs.Living.{never_moving}
use Rattle.home_states.proofs.Numbering.{turn_counted_on, turn_few}
use Rattle.home_states.proofs.homes.LiveHome.take.Goals as goal
use Rattle.home_states.proofs.Prelude.{the_view}

pub unreachable-requires : goal.unreachable-requires
unreachable-requires c = never_moving _ c.self.invariant.live c.in-Moving.is

pub number_turn-requires : goal.number_turn-requires
number_turn-requires c = record {
  few = turn_few (the_view c.self.inside) c.in-InWindow.field-0 c.in-InWindow.table c.take-taken.new.self c.args.r.0 c.args.moment c.take-taken.ensures.turn.0 c.take-taken.result
      c.self.invariant.live c.in-InWindow.is c.take-taken.ensures.turn.1 c.take-taken.ensures.window c.few.ensures.few c.take-taken.ensures.turn.3;
}

pub invariant_of-self : goal.invariant_of-self
invariant_of-self c =
    turn_counted_on (the_view c.self.inside) c.self.inside.tickets c.number_turn.new.tickets c.in-InWindow.field-0 c.in-InWindow.table c.take-taken.new.self c.args.r.0 c.args.moment c.take-taken.ensures.turn.0 c.take-taken.result
    c.self.invariant c.in-InWindow.is c.take-taken.ensures.turn.1 c.take-taken.ensures.window c.take-taken.ensures.turn.3 c.number_turn.ensures.count

pub returns-in-InWindow-clause-stood : goal.returns-in-InWindow-clause-stood
returns-in-InWindow-clause-stood c =
    steps_in_order (the_view c.self.inside) _ c.in-InWindow.field-0 c.self.inside.tickets_before c.in-InWindow.table c.take-taken.result c.number_turn.result
    c.self.view_is c.in-InWindow.is c.take-taken.ensures.stood c.number_turn.ensures.told
