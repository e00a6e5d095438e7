use Rattle.order_checker.proofs.Passing.{device-off, device-so}
use Rattle.order_checker.proofs.Walking.{walk-end}
use Rattle.order_checker.proofs.home_lines.all_stand_so.Goals as goal
use Rattle.order_checker.proofs.Prelude.{Ok, ap, arith, next_device_told, sym, ◌∙◌}

pub returns-then-not-is_told : goal.returns-then-not-is_told
returns-then-not-is_told c =
    c.stands.invariant ∙ device-off c.args.told.now c.args.home.now c.stands.i _ c.stands-test.true (sym c.if-not-is_told.ensures)

pub stands-preserved : goal.stands-preserved
stands-preserved c =
    c.stands.invariant ∙ device-so c.args.told.now c.args.home.now c.stands.i _ c.stands-test.true (sym c.if-not-is_told.ensures)

pub returns : goal.returns
returns c =
    c.stands.invariant ∙ walk-end (next_device_told c.args.told.now) c.stands.i c.args.home.now c.stands.i c.stands-test.false
    ∙ ap Ok (omega (arith, c.stands-test.false, c.stands.auto.i-end))
