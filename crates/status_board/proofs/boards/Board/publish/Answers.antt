use Rattle.status_board.proofs.Prelude.{IsNotBelow, PassView, Rises, Sight, ap, last_of, nothing, publishing, rules, subst, sym, ◌∙◌}
use Rattle.status_board.proofs.Publishings.{rises_more}
use Rattle.status_board.proofs.Steps.{publishes_as}
use Rattle.status_board.proofs.boards.Board.publish.Goals as goal

pub swap_as-requires : goal.swap_as-requires
swap_as-requires g c =
    let up = subst (λ (s : Sight). IsNotBelow (last_of s.list) c.args.c) (sym c.p.view_is) c.requires.rises in
    (search rules, (search rules, (search rules, publishes_as _ _ _ c.p.invariant.0 up)))

pub invariant_of-p : goal.invariant_of-p
invariant_of-p g c =
    let up = subst (λ (s : Sight). IsNotBelow (last_of s.list) c.args.c) (sym c.p.view_is) c.requires.rises in
    let on = rises_more nothing _ c.args.c c.p.invariant.1 up in
    let now = c.swap_as.ensures.rule in
    (now ∙ ap (λ (v : PassView). publishing v.seen) (sym now), subst (λ (v : PassView). Rises v.seen) (sym now) on)

pub returns-clause-rises : goal.returns-clause-rises
returns-clause-rises g c =
    let up = subst (λ (s : Sight). IsNotBelow (last_of s.list) c.args.c) (sym c.p.view_is) c.requires.rises in
    subst (λ (v : PassView). Rises v.seen) (sym c.swap_as.ensures.rule) (rises_more nothing _ c.args.c c.p.invariant.1 up)
