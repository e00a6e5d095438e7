use Rattle.serial_line.proofs.Prelude.{ap, last_before, meets, sym, ◌∙◌}
use Rattle.serial_line.proofs.lines.Line.last_meeting.Goals as goal

pub returns-then-meets : goal.returns-then-meets
returns-then-meets c =
    let met = ap (meets c.args.devices.now) (sym c.index.ensures) ∙ sym c.if-meets.ensures in
    rw (← c.self.view_is) (sym (last_before (meets c.args.devices.now) c.self.inside.entries.items c.loop-at.at c.index.result.now c.loop-at-test.true c.loop-at.invariant.0 met c.loop-at.invariant.1))
