use Rattle.serial_line.proofs.Labels.{given_between, inserted_removed, label_found, labels_inserted, labels_part, part_inserted}
use Rattle.serial_line.proofs.order_labels.insert_label.Goals as goal
use Rattle.serial_line.proofs.Prelude.{IsBetween, ap, arith, insert, length, new_label, rules, vec_len, ◌∙◌, ◌≡◌}

pub give_anew-requires-clause-before : goal.give_anew-requires-clause-before
give_anew-requires-clause-before c =
    let seen : c.insert-inserted.new.self.items ≡ insert c.args.labels.now.items c.args.at c.unwrap_or-label.result = search rules in
    let size : length c.args.labels.now.items ≡ vec_len c.args.labels.now = search rules in
    let place = c.requires.place in
    rw (seen, part_inserted c.args.labels.now.items c.args.at c.unwrap_or-label.result c.args.sealed c.requires.unsealed (omega (arith, size, place))) (labels_part c.args.labels.now.items c.args.sealed c.requires.labels)

pub returns-else-is_none-clause-labels : goal.returns-else-is_none-clause-labels
returns-else-is_none-clause-labels c =
    let seen : c.insert-inserted.new.self.items ≡ insert c.args.labels.now.items c.args.at c.unwrap_or-label.result = search rules in
    let size : length c.args.labels.now.items ≡ vec_len c.args.labels.now = search rules in
    let place = c.requires.place in
    let found = given_between c.as_slice.result.now c.args.at c.free_label-given.result c.free_label-given.ensures.free (search rules) in
    let between : IsBetween c.args.at c.unwrap_or-label.result c.args.labels.now.items = rw (c.unwrap_or-label.ensures, ← c.as_slice.ensures.value) found in
    rw seen (labels_inserted c.args.labels.now.items c.args.at c.unwrap_or-label.result c.requires.labels (omega (arith, size, place)) between)

pub returns-else-is_none-clause-others : goal.returns-else-is_none-clause-others
returns-else-is_none-clause-others c free =
    let seen : c.insert-inserted.new.self.items ≡ insert c.args.labels.now.items c.args.at c.unwrap_or-label.result = search rules in
    let size : length c.args.labels.now.items ≡ vec_len c.args.labels.now = search rules in
    let place = c.requires.place in
    rw seen (inserted_removed c.args.labels.now.items c.args.at c.unwrap_or-label.result (omega (arith, size, place)))

pub returns-else-is_none-clause-given : goal.returns-else-is_none-clause-given
returns-else-is_none-clause-given c free =
    let seen : c.insert-inserted.new.self.items ≡ insert c.args.labels.now.items c.args.at c.unwrap_or-label.result = search rules in
    let found = label_found c.free_label-given.result (new_label c.args.at c.as_slice.result.now) c.free_label-given.ensures.given (search rules) in
    seen ∙ ap (insert c.args.labels.now.items c.args.at) (c.unwrap_or-label.ensures ∙ found ∙ ap (new_label c.args.at) c.as_slice.ensures.value)
