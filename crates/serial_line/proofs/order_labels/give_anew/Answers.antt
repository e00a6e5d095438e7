use Rattle.serial_line.proofs.Labels.{anew_told, before_leaves, labels_told, part_told}
use Rattle.serial_line.proofs.order_labels.give_anew.Goals as goal
use Rattle.serial_line.proofs.Prelude.{AreLabels, ap, arith, label_at_end, label_before, length, rules, subst, take_all, vec_len, ◌∙◌, ◌≡◌}

pub next_label-requires-clause-room : goal.next_label-requires-clause-room
next_label-requires-clause-room c =
    let within = c.labels-test.true in
    let seen = c.as_slice.ensures.value in
    let size : length c.labels.labels.items ≡ vec_len c.labels.labels = search rules in
    let count = c.labels.invariant.2 in
    let end = c.len-at-end.ensures in
    rw (c.label_before-left.ensures, seen) (before_leaves c.labels.labels.items c.labels.at (omega (arith, within, size, count, end)) c.labels.invariant.0)

pub labels-preserved : goal.labels-preserved
labels-preserved c =
    let within = c.labels-test.true in
    let size : length c.labels.labels.items ≡ vec_len c.labels.labels = search rules in
    let count = c.labels.invariant.2 in
    let end = c.len-at-end.ensures in
    let before = ap (label_before 0 c.labels.at) c.as_slice.ensures.value in
    let left = c.label_before-left.ensures in
    let greater = c.next_label.ensures.greater in (
      labels_told c.labels.labels.items c.labels.at c.next_label.result (omega (arith, within, size, count, end)) c.labels.invariant.0 (omega (arith, before, left, greater)) c.next_label.ensures.room,
      part_told c.labels.labels.items c.labels.at c.next_label.result c.args.from c.labels.auto.at ∙ c.labels.invariant.1,
      c.labels.invariant.2,
      c.labels.invariant.3,
      anew_told c.args.from c.labels.labels.items c.labels.at c.next_label.result (omega (arith, within, size, count, end)) c.labels.invariant.4 (c.next_label.ensures.label ∙ ap (λ left. label_at_end left c.labels.at) (left ∙ before)),
    )

pub returns-clause-labels : goal.returns-clause-labels
returns-clause-labels c =
    let past = c.labels-test.false in
    let size : length c.labels.labels.items ≡ vec_len c.labels.labels = search rules in
    let count = c.labels.invariant.2 in
    let end = c.len-at-end.ensures in
    subst AreLabels (take_all c.labels.at c.labels.labels.items (omega (arith, past, size, count, end))) c.labels.invariant.0

pub returns-clause-anew : goal.returns-clause-anew
returns-clause-anew c k low within =
    let past = c.labels-test.false in
    let size : length c.labels.labels.items ≡ vec_len c.labels.labels = search rules in
    let count = c.labels.invariant.2 in
    let end = c.len-at-end.ensures in
    c.labels.invariant.4 k low (omega (arith, past, size, count, end, within))
