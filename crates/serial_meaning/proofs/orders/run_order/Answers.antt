use Rattle.serial_meaning.proofs.Prelude.{ap, drop, fold, option_map, refl, runs_of, serial_run_of, serve, sym, ◌∙◌}
use Rattle.serial_meaning.proofs.Items.{serve_stays}
use Rattle.serial_meaning.proofs.Refusals.{fold_stops}
use Rattle.serial_meaning.proofs.orders.run_order.Goals as goal

pub returns-in-None-clause-answers : goal.returns-in-None-clause-answers
returns-in-None-clause-answers c =
    let runs = runs_of c.args.roster.now in
    let kinds = c.args.kinds.now.items in
    let order = serial_run_of c.items.order in
    let seen = c.as_slice-item-items.result.now in
    let done = ap (option_map serial_run_of) (sym c.in-None.is) ∙ c.in_ok-next.ensures.done in
    let stops = fold_stops (serve runs kinds) (λ s. s.refused) (serve_stays runs kinds) order seen c.items.item-index _ c.items-test.true done in
    let same = ap (λ items. (fold (serve runs kinds) order (drop c.items.item-index items)).refused) (sym c.as_slice-item-items.ensures) in
    rw (ap (λ s. s.refused) c.items.invariant.1 ∙ same ∙ stops) refl
