use Rattle.serial_line.proofs.Labels.{labels_part, labels_removed, part_removed}
use Rattle.serial_line.proofs.order_labels.remove_label.Goals as goal
use Rattle.serial_line.proofs.Prelude.{LastLeavesRoom, rules, subst, ◌∙◌}

pub give_anew-requires-clause-before : goal.give_anew-requires-clause-before
give_anew-requires-clause-before c =
    rw (c.remove.ensures.items, part_removed c.args.labels.now.items c.args.at c.args.sealed c.requires.unsealed) (labels_part c.args.labels.now.items c.args.sealed c.requires.labels)

pub returns-else-not-last_leaves_room-clause-labels : goal.returns-else-not-last_leaves_room-clause-labels
returns-else-not-last_leaves_room-clause-labels c =
    let last : LastLeavesRoom 0 c.as_slice.result.now = search rules in
    rw c.remove.ensures.items (labels_removed c.args.labels.now.items c.args.at c.requires.labels (subst (LastLeavesRoom 0) (c.as_slice.ensures.value ∙ c.remove.ensures.items) last))
