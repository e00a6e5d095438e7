use Rattle.serial_line.proofs.Labels.{before_first, last_leaves}
use Rattle.serial_line.proofs.order_labels.last_leaves_room.Goals as goal
use Rattle.serial_line.proofs.Prelude.{arith, common_steps, length, refl, ◌+◌, ◌-◌, ◌<◌, ◌≡◌, ◌≤◌}

pub returns-else-count-eq0-clause-room : goal.returns-else-count-eq0-clause-room
returns-else-count-eq0-clause-room c leaves =
    let other = c.if-count-eq0.false in
    let some : 0 < length c.args.labels.now = omega (arith, other) in
    let last = c.label_before.ensures in
    let low : c.label_before.result ≤ 18446744069414584320 + (length c.args.labels.now - 1) = grind (arith, common_steps) in
    last_leaves 0 0 c.args.labels.now some (omega (arith, last, low, some))

pub returns-else-count-eq0-clause-known : goal.returns-else-count-eq0-clause-known
returns-else-count-eq0-clause-known c =
    let other = c.if-count-eq0.false in
    let last = c.label_before.ensures in
    rw (← last) (grind (arith, common_steps))

pub returns-then-count-eq0-clause-known : goal.returns-then-count-eq0-clause-known
returns-then-count-eq0-clause-known c =
    let none : length c.args.labels.now ≡ 0 = omega (arith, c.if-count-eq0.true) in
    rw (none, ← before_first 0 c.args.labels.now) refl
