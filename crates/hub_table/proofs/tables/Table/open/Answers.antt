use Rattle.hub_table.proofs.Holding.{opens}
use Rattle.hub_table.proofs.tables.Table.open.Goals as goal
use Rattle.hub_table.proofs.Prelude.{ap, arith, length}

pub invariant_of-result : goal.invariant_of-result
invariant_of-result g c = opens c.in-Ok-open_window.hub.places c.args.home.devices c.empty_hands-grips.result.items c.in-Ok-open_window.ensures.opened.places c.empty_hands-grips.ensures.empty
    (omega (arith, c.empty_hands-grips.ensures.count, c.len-count.ensures, ap (λ w. length w) c.world.ensures.world, c.kept_invariant.ensures.size))
