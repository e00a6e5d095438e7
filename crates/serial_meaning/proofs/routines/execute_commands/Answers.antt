use Rattle.serial_meaning.proofs.Prelude.{ap, execute, execution_of, option_map, refl, rules, sym, ◌∙◌}
use Rattle.serial_meaning.proofs.Items.{execute_stays}
use Rattle.serial_meaning.proofs.Refusals.{fold_goes_on, fold_stops}
use Rattle.serial_meaning.proofs.routines.execute_commands.Goals as goal

pub commands-preserved : goal.commands-preserved
commands-preserved c =
    let kinds = c.args.kinds.now.items in
    let done = ap (option_map execution_of) (sym c.in-Some.is) ∙ c.in_ok-next.ensures.done in
    let goes_on = fold_goes_on (execute kinds) (λ x. x.refused) (execute_stays kinds) (execution_of c.commands.run) (execution_of c.in-Some.next) c.args.commands.now c.commands.command-index _ c.commands-test.true done in
    (search rules, c.commands.invariant.1 ∙ goes_on)

pub returns-in-None-clause-done : goal.returns-in-None-clause-done
returns-in-None-clause-done c =
    let kinds = c.args.kinds.now.items in
    let done = ap (option_map execution_of) (sym c.in-None.is) ∙ c.in_ok-next.ensures.done in
    let stops = fold_stops (execute kinds) (λ x. x.refused) (execute_stays kinds) (execution_of c.commands.run) c.args.commands.now c.commands.command-index _ c.commands-test.true done in
    rw (ap (λ x. x.refused) c.commands.invariant.1 ∙ stops) refl
