use Rattle.home_states.proofs.Drafting.{has_added, has_joined, not_ok}
use Rattle.home_states.proofs.Joining.{joined_or_same}
use Rattle.home_states.proofs.homes.LiveHome.add_run.Goals as goal
use Rattle.home_states.proofs.homes.LiveHome.add_run.Goals.{in-Err, in-Ok}
use Rattle.home_states.proofs.Prelude.{the_view}

pub invariant_of-self-in-InWindow : goal.invariant_of-self-in-InWindow
invariant_of-self-in-InWindow c =
    joined_or_same (the_view c.self.inside) c.self.inside.tickets c.in-InWindow.number c.in-InWindow.table c.join_in.new.table c.args.routine c.args.follows c.join_in.new.script c.join_in.result
    c.self.invariant c.in-InWindow.is c.join_in.ensures.joined c.join_in.ensures.sound c.join_in.ensures.same_script c.join_in.ensures.same_window

pub returns-after-add_run-clause-added : goal.returns-after-add_run-clause-added
returns-after-add_run-clause-added c = elim c.match-add_run.branch [
  | in-Ok w ↦ has_added _ _ c.in-Between.field-0 c.args.routine c.args.follows w.in-Ok.run' c.add_run.new.self c.match-add_run.result c.self.view_is c.in-Between.is c.if-not-self.false w.in-Ok.ensures.added w.result-is
  | in-Err w ↦ not_ok _ _ _ w.result-is
]

pub returns-in-InWindow-clause-added : goal.returns-in-InWindow-clause-added
returns-in-InWindow-clause-added c =
    has_joined (the_view c.self.inside) c.args.self.now c.in-InWindow.number c.in-InWindow.table c.join_in.new.table c.args.routine c.args.follows c.join_in.new.script c.join_in.result
    c.self.view_is c.in-InWindow.is c.join_in.ensures.joined
