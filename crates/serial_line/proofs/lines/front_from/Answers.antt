use Rattle.serial_line.proofs.Fronts.{front_ends, front_goes_on, front_stops}
use Rattle.serial_line.proofs.lines.front_from.Goals as goal
use Rattle.serial_line.proofs.Prelude.{ap, is_open_run, sym, ◌∙◌}

pub returns-then-is_open : goal.returns-then-is_open
returns-then-is_open c = front_stops c.args.entries.now c.items.at c.index-entries-at.result c.items-test.true (ap is_open_run (sym c.index-entries-at.is) ∙ sym c.if-is_open.ensures) c.items.invariant

pub items-preserved : goal.items-preserved
items-preserved c = front_goes_on c.args.entries.now c.items.at c.index-entries-at.result c.items-test.true (ap is_open_run (sym c.index-entries-at.is) ∙ sym c.if-is_open.ensures) c.items.invariant

pub returns : goal.returns
returns c = front_ends c.args.entries.now c.items.at c.items-test.false c.items.invariant
