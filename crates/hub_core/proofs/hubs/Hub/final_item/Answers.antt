use Rattle.hub_core.proofs.calls.FinalItems.{final_told, none_told}
use Rattle.hub_core.proofs.hubs.Hub.final_item.Goals as goal
use Rattle.hub_core.proofs.Prelude.{arith, ◌∙◌}

pub returns-then-at-sealed : goal.returns-then-at-sealed
returns-then-at-sealed g c =
    let below = c.if-at-sealed.true in
    let sealed = c.sealed.ensures.sealed in
    c.get.ensures ∙ final_told c.window.inside c.args.self.now (c.window.view_is ∙ c.self.view_is) c.window.invariant c.args.at (omega (arith, below, sealed))

pub returns-else-at-sealed : goal.returns-else-at-sealed
returns-else-at-sealed g c =
    let past = c.if-at-sealed.false in
    let sealed = c.sealed.ensures.sealed in
    none_told c.window.inside c.args.self.now (c.window.view_is ∙ c.self.view_is) c.window.invariant c.args.at (omega (arith, past, sealed))
