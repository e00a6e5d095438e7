use Rattle.timeline_scheduler.proofs.Prelude.{Item, List, Mark, Slot, WindowParts, ap, arith, chosen, false, fold, fold-append, items_of, length, length-map, slice_get, slice_index_or, sym, take, true, waited_item, ◌<◌, ◌∙◌, ◌≡◌}
use Rattle.timeline_scheduler.proofs.Closing.{chosen_more, chosen_same, first_chosen}
use Rattle.timeline_scheduler.proofs.ItemPlaces.{item_there, told_at}
use Rattle.timeline_scheduler.proofs.Passes.{walk_done, walk_length}
use Rattle.timeline_scheduler.proofs.slots.Slots.wait_for_writers.Goals as goal

-- as many items as marks
items_length : (marks : List Mark) → length (items_of marks) ≡ length marks
items_length marks = length-map marks (λ (m : Mark). m.item)

pub items-init : goal.items-init
items-init c = sym (ap (fold (λ ss i. waited_item c.args.s.now.table c.args.s.now.runs c.args.r.0 i ss) c.args.self.now) (first_chosen c.args.before.now (items_of c.args.s.now.line)))

pub items-preserved-then-not-before-at : goal.items-preserved-then-not-before-at
items-preserved-then-not-before-at c =
    let start = c.args.before.now in
    let end = (c.len-at-end.ensures.len ∙ ap (λ (p : WindowParts). length p.line) c.s.view_is) in
    let own = c.requires.flags in
    let within : c.items.at < length start = omega (arith, own, end, c.items-test.true) in
    let flag : slice_index_or start c.items.at false ≡ false = c.if-not-before-at.true in
    c.items.invariant ∙ sym (ap (fold (λ ss i. waited_item c.args.s.now.table c.args.s.now.runs c.args.r.0 i ss) c.args.self.now) (chosen_same start (items_of c.args.s.now.line) c.items.at within flag))

pub unwrap-item-requires : goal.unwrap-item-requires
unwrap-item-requires c =
    let end = (c.len-at-end.ensures.len ∙ ap (λ (p : WindowParts). length p.line) c.s.view_is) in
    item_there c.args.s.now.line c.items.at c.get.result (c.get.ensures ∙ ap (λ (p : WindowParts). slice_get (items_of p.line) c.items.at) c.s.view_is) (omega (arith, end, c.items-test.true))

pub wait_for-requires-clause-size : goal.wait_for-requires-clause-size
wait_for-requires-clause-size c =
    walk_length c.args.s.now.table c.args.s.now.runs c.args.r.0 c.args.before.now (items_of c.args.s.now.line) c.args.self.now c.items.self c.items.at c.items.invariant ∙ c.requires.size

pub items-preserved : goal.items-preserved
items-preserved c =
    let start = c.args.before.now in
    let items : List Item = items_of c.args.s.now.line in
    let own = c.requires.flags in
    let many = items_length c.args.s.now.line in
    let end = (c.len-at-end.ensures.len ∙ ap (λ (p : WindowParts). length p.line) c.s.view_is) in
    let within : c.items.at < length start = omega (arith, own, end, c.items-test.true) in
    let flag : slice_index_or start c.items.at false ≡ true = c.if-not-before-at.false in
    let more = chosen_more start items c.items.at c.unwrap-item.result within (omega (arith, within, own, many)) flag (told_at items c.items.at c.unwrap-item.result (sym (c.get.ensures ∙ ap (λ (p : WindowParts). slice_get (items_of p.line) c.items.at) c.s.view_is) ∙ c.unwrap-item.ensures)) in
    let step = λ (ss : List Slot) (i : Item). waited_item c.args.s.now.table c.args.s.now.runs c.args.r.0 i ss in
    c.wait_for.ensures ∙ ap (λ ss. step ss c.unwrap-item.result) c.items.invariant
    ∙ sym (ap (fold step c.args.self.now) more ∙ fold-append step c.args.self.now (chosen (take c.items.at start) (take c.items.at items)) _)

pub returns : goal.returns
returns c =
    let own = c.requires.flags in
    let many = items_length c.args.s.now.line in
    let end = (c.len-at-end.ensures.len ∙ ap (λ (p : WindowParts). length p.line) c.s.view_is) in
    walk_done c.args.s.now.table c.args.s.now.runs c.args.r.0 c.args.before.now (items_of c.args.s.now.line) c.args.self.now c.items.self c.items.at c.items.invariant
    (omega (arith, own, end, c.items-test.false)) (omega (arith, many, end, c.items-test.false))
