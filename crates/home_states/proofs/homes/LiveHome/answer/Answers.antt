use Rattle.home_states.proofs.Answered.{has_answered}
use Rattle.home_states.proofs.Drafting.{not_ok}
use Rattle.home_states.proofs.Prelude.{HandedDevice, HasAnswered, IfOk, InWindow, IsCounted, OpenHub, Phase, subst, sym, the_view}
use Rattle.home_states.proofs.Living.{never_moving}
use Rattle.home_states.proofs.Numbering.{back_counted_on}
use Rattle.home_states.proofs.homes.LiveHome.answer.Goals as goal
use Rattle.home_states.proofs.homes.LiveHome.answer.Goals.{in-Between, in-InWindow+in-Err, in-InWindow+in-Ok}
use Rattle.home_states.specs.declared.homes.LiveHome.TheInside.{Inside}

pub unreachable-requires : goal.unreachable-requires
unreachable-requires c = never_moving _ c.self.invariant.live c.in-Moving.is

pub returns-clause-answered : goal.returns-clause-answered
returns-clause-answered c = elim c.match-self.branch [
  | in-InWindow+in-Ok w ↦
      subst (λ (t : Inside). IfOk c.match-self.result (λ made. HasAnswered c.args.self.now c.args.d.0 c.args.ticket c.args.told c.args.moment made (the_view t))) (sym w.self-inside-is)
      (has_answered (the_view c.self.inside) c.args.self.now w.in-InWindow.field-0 w.in-InWindow.table w.answer_numbered.new.table c.args.d.0 c.args.ticket w.in-Ok.ensures.answered.0 c.args.told c.args.moment w.in-Ok.made
      c.match-self.result c.self.view_is w.in-InWindow.is w.in-Ok.ensures.answered.1 w.in-Ok.ensures.answered.2 w.in-Ok.ensures.sealed w.in-Ok.ensures.window w.result-is)
  | in-InWindow+in-Err w ↦ not_ok _ _ _ w.result-is
  | in-Between w ↦ not_ok _ _ _ w.result-is
]

pub invariant_of-self : goal.invariant_of-self
invariant_of-self c = elim c.match-self.branch [
  | in-InWindow+in-Ok w ↦
      subst (λ (t : Inside). IsCounted (the_view t) t.tickets) (sym w.self-inside-is)
      (back_counted_on (the_view c.self.inside) c.self.inside.tickets w.in-InWindow.field-0 w.in-InWindow.table w.answer_numbered.new.table c.args.d.0 w.in-Ok.ensures.answered.0 c.args.told c.args.moment w.in-Ok.made
      c.self.invariant w.in-InWindow.is w.in-Ok.ensures.answered.2 w.in-Ok.ensures.window)
  | in-InWindow+in-Err w ↦
      subst (λ (t : Inside). IsCounted (the_view t) t.tickets) (sym w.self-inside-is)
      (subst (λ (h : OpenHub HandedDevice). IsCounted (record (the_view c.self.inside) { phase = InWindow w.in-InWindow.field-0 h }) c.self.inside.tickets) (sym w.in-Err.ensures.same)
      (subst (λ (p : Phase). IsCounted (record (the_view c.self.inside) { phase = p }) c.self.inside.tickets) w.in-InWindow.is c.self.invariant))
  | in-Between w ↦ subst (λ (t : Inside). IsCounted (the_view t) t.tickets) (sym w.self-inside-is) c.self.invariant
]
