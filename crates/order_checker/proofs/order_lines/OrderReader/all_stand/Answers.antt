use Rattle.order_checker.proofs.Passing.{run-missing, run-stands}
use Rattle.order_checker.proofs.Walking.{walk-end}
use Rattle.order_checker.proofs.order_lines.OrderReader.all_stand.Goals as goal
use Rattle.order_checker.proofs.Prelude.{Ok, ap, arith, length-map, next_stands, plain_ends, sym, ◌∙◌}

pub returns-then-not-stands_if_committed : goal.returns-then-not-stands_if_committed
returns-then-not-stands_if_committed c =
    c.ends.invariant ∙ run-missing c.args.items.now c.args.self.now.ends.now c.ends.i c.end-item.result c.ends-test.true c.end-item.is (sym c.if-not-stands_if_committed.ensures)

pub ends-preserved : goal.ends-preserved
ends-preserved c =
    c.ends.invariant ∙ run-stands c.args.items.now c.args.self.now.ends.now c.ends.i c.end-item.result c.ends-test.true c.end-item.is (sym c.if-not-stands_if_committed.ensures)

pub returns : goal.returns
returns c =
    c.ends.invariant ∙ walk-end (next_stands c.args.items.now) c.ends.i (plain_ends c.args.self.now.ends.now) c.ends.i (rw length-map c.ends-test.false)
    ∙ ap Ok (omega (arith, c.ends-test.false, c.ends.auto.i-end))
