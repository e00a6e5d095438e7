use Rattle.serial_line.proofs.Labels.{before_leaves, end_between, end_free, end_label, labels_part, middle_between, middle_label, none_free, rises_at, some_free}
use Rattle.serial_line.proofs.order_labels.free_label.Goals as goal
use Rattle.serial_line.proofs.Prelude.{arith, length, refl, sym, ◌<◌}

pub next_label-requires-clause-room : goal.next_label-requires-clause-room
next_label-requires-clause-room c =
    rw c.label_before-left.ensures (before_leaves c.args.labels.now c.args.at c.requires.place (labels_part c.args.labels.now c.args.at c.requires.labels))

pub returns-then-at-labels-clause-free : goal.returns-then-at-labels-clause-free
returns-then-at-labels-clause-free c =
    end_between c.args.labels.now c.args.at c.label_before-left.result c.next_label.result c.if-at-labels.true c.label_before-left.ensures c.next_label.ensures.greater c.next_label.ensures.room

pub overflow_sub-right : goal.overflow_sub-right
overflow_sub-right c =
    let place = c.requires.place in
    let other = c.if-at-labels.false in
    let within : c.args.at < length c.args.labels.now = omega (arith, place, other) in
    let left = c.label_before-left.ensures in
    let rises = rises_at 0 c.args.labels.now c.args.at 0 c.requires.labels.rising within in
    omega (arith, left, rises)

pub returns-then-right-left-gt1-clause-free : goal.returns-then-right-left-gt1-clause-free
returns-then-right-left-gt1-clause-free c =
    let place = c.requires.place in
    let other = c.if-at-labels.false in
    let apart = c.if-right-left-gt1.true in
    let within : c.args.at < length c.args.labels.now = omega (arith, place, other) in
    middle_between c.args.labels.now c.args.at c.label_before-left.result _ 0 c.requires.labels within c.label_before-left.ensures (omega (arith, apart)) (omega (arith, apart))

pub returns-else-right-left-gt1-clause-there : goal.returns-else-right-left-gt1-clause-there
returns-else-right-left-gt1-clause-there c =
    let place = c.requires.place in
    let other = c.if-at-labels.false in
    let near = c.if-right-left-gt1.false in
    let within : c.args.at < length c.args.labels.now = omega (arith, place, other) in
    sym (none_free c.args.labels.now c.args.at c.label_before-left.result 0 within c.label_before-left.ensures (omega (arith, near)))

pub returns-then-at-labels-clause-given : goal.returns-then-at-labels-clause-given
returns-then-at-labels-clause-given c =
    end_label c.args.labels.now c.args.at c.label_before-left.result c.next_label.result c.label_before-left.ensures c.if-at-labels.true c.next_label.ensures.label

pub returns-then-at-labels-clause-there : goal.returns-then-at-labels-clause-there
returns-then-at-labels-clause-there c =
    let end = c.if-at-labels.true in
    end_free 0 c.args.labels.now c.args.at (omega (arith, end))

pub returns-then-right-left-gt1-clause-given : goal.returns-then-right-left-gt1-clause-given
returns-then-right-left-gt1-clause-given c =
    let place = c.requires.place in
    let other = c.if-at-labels.false in
    let within : c.args.at < length c.args.labels.now = omega (arith, place, other) in
    middle_label c.args.labels.now c.args.at c.label_before-left.result _ c.label_before-left.ensures within refl

pub returns-then-right-left-gt1-clause-there : goal.returns-then-right-left-gt1-clause-there
returns-then-right-left-gt1-clause-there c =
    let place = c.requires.place in
    let other = c.if-at-labels.false in
    let apart = c.if-right-left-gt1.true in
    let within : c.args.at < length c.args.labels.now = omega (arith, place, other) in
    some_free c.args.labels.now c.args.at c.label_before-left.result 0 within c.label_before-left.ensures (omega (arith, apart))
