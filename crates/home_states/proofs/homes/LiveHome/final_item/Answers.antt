use Rattle.home_states.proofs.Living.{never_moving}
use Rattle.home_states.proofs.homes.LiveHome.final_item.Goals as goal
use Rattle.home_states.proofs.Prelude.{IfErr, LiveState, Phase, subst, sym, the_view}
use Rattle.home_states.specs.Queries.{MayNotTellFinal}

pub unreachable-requires : goal.unreachable-requires
unreachable-requires c = never_moving _ c.self.invariant.live c.in-Moving.is

pub returns-in-InWindow-clause-refused : goal.returns-in-InWindow-clause-refused
returns-in-InWindow-clause-refused c =
    subst (λ (s : LiveState). IfErr c.final_in.result (λ why. MayNotTellFinal s c.args.at why)) c.self.view_is
    (subst (λ (p : Phase). IfErr c.final_in.result (λ why. MayNotTellFinal (record (the_view c.self.inside) { phase = p }) c.args.at why)) (sym c.in-InWindow.is) c.final_in.ensures.refused)
