use Rattle.timeline_scheduler.proofs.Prelude.{IsKnown, Item, List, Mark, Ran, Some, WindowParts, [], ap, arith, chosen, doom_of, false, is_counted, is_some, items_of, length, length-map, length-set, not, refl, slice_get, slice_index_or, subst, sym, take, true, ◌++◌, ◌+◌, ◌<◌, ◌∙◌, ◌∷◌, ◌≡◌, ◌≤◌}
use Rattle.timeline_scheduler.proofs.Closing.{chosen_more, chosen_same}
use Rattle.timeline_scheduler.proofs.CountedRuns.{all_counted, counted_item, counted_run, none_counted}
use Rattle.timeline_scheduler.proofs.ItemPlaces.{item_there, told_at}
use Rattle.timeline_scheduler.proofs.slots.counted_runs.Goals as goal

-- as many items as marks
items_length : (marks : List Mark) → length (items_of marks) ≡ length marks
items_length marks = length-map marks (λ (m : Mark). m.item)

pub items-init : goal.items-init
items-init c = record { size = refl; counted = none_counted c.args.s.now.history 65 c.args.before.now (items_of c.args.s.now.line) }

pub items-preserved-then-not-before-at : goal.items-preserved-then-not-before-at
items-preserved-then-not-before-at c =
    let start = c.args.before.now in
    let end = (c.len-at-end.ensures.len ∙ ap (λ (p : WindowParts). length p.line) c.s.view_is) in
    let own = c.requires.flags in
    let within : c.items.at < length start = omega (arith, own, end, c.items-test.true) in
    let flag : slice_index_or start c.items.at false ≡ false = c.if-not-before-at.true in
    record {
      size = c.items.invariant.size;
      counted = λ x. c.items.invariant.counted x ∙ ap (λ is. is_counted c.args.s.now.history is x) (sym (chosen_same start (items_of c.args.s.now.line) c.items.at within flag));
    }

pub unwrap-item-requires : goal.unwrap-item-requires
unwrap-item-requires c =
    let end = (c.len-at-end.ensures.len ∙ ap (λ (p : WindowParts). length p.line) c.s.view_is) in
    item_there c.args.s.now.line c.items.at c.get.result (c.get.ensures ∙ ap (λ (p : WindowParts). slice_get (items_of p.line) c.items.at) c.s.view_is) (omega (arith, end, c.items-test.true))

pub bounds-counted-x : goal.bounds-counted-x
bounds-counted-x c =
    let there : slice_get (items_of c.args.s.now.line) c.items.at ≡ Some c.unwrap-item.result = sym (c.get.ensures ∙ ap (λ (p : WindowParts). slice_get (items_of p.line) c.items.at) c.s.view_is) ∙ c.unwrap-item.ensures in
    let known : IsKnown c.args.s.now.runs (Ran c.in-Some.x) = subst (IsKnown c.args.s.now.runs) c.in-Some.ensures.some (c.requires.known c.items.at c.unwrap-item.result there) in
    let low : c.in-Some.x.0 ≤ 64 = known.1 in
    omega (arith, low)

pub items-preserved-in_default : goal.items-preserved-in_default
items-preserved-in_default c =
    let start = c.args.before.now in
    let items : List Item = items_of c.args.s.now.line in
    let own = c.requires.flags in
    let many = items_length c.args.s.now.line in
    let end = (c.len-at-end.ensures.len ∙ ap (λ (p : WindowParts). length p.line) c.s.view_is) in
    let within : c.items.at < length start = omega (arith, own, end, c.items-test.true) in
    let flag : slice_index_or start c.items.at false ≡ true = c.if-not-before-at.false in
    let there : slice_get items c.items.at ≡ Some c.unwrap-item.result = sym (c.get.ensures ∙ ap (λ (p : WindowParts). slice_get (items_of p.line) c.items.at) c.s.view_is) ∙ c.unwrap-item.ensures in
    let more : chosen (take (c.items.at + 1) start) (take (c.items.at + 1) items) ≡ chosen (take c.items.at start) (take c.items.at items) ++ c.unwrap-item.result ∷ [] =
    chosen_more start items c.items.at c.unwrap-item.result within (omega (arith, within, own, many)) flag (told_at items c.items.at c.unwrap-item.result there) in
    record {
      size = c.items.invariant.size;
      counted = counted_item c.args.s.now.history c.items.counted (chosen (take c.items.at start) (take c.items.at items)) (chosen (take (c.items.at + 1) start) (take (c.items.at + 1) items)) c.unwrap-item.result c.in_default.ensures.none more c.items.invariant.counted;
    }

pub items-preserved : goal.items-preserved
items-preserved c =
    let start = c.args.before.now in
    let items : List Item = items_of c.args.s.now.line in
    let own = c.requires.flags in
    let many = items_length c.args.s.now.line in
    let end = (c.len-at-end.ensures.len ∙ ap (λ (p : WindowParts). length p.line) c.s.view_is) in
    let within : c.items.at < length start = omega (arith, own, end, c.items-test.true) in
    let flag : slice_index_or start c.items.at false ≡ true = c.if-not-before-at.false in
    let there : slice_get items c.items.at ≡ Some c.unwrap-item.result = sym (c.get.ensures ∙ ap (λ (p : WindowParts). slice_get (items_of p.line) c.items.at) c.s.view_is) ∙ c.unwrap-item.ensures in
    let more : chosen (take (c.items.at + 1) start) (take (c.items.at + 1) items) ≡ chosen (take c.items.at start) (take c.items.at items) ++ c.unwrap-item.result ∷ [] =
    chosen_more start items c.items.at c.unwrap-item.result within (omega (arith, within, own, many)) flag (told_at items c.items.at c.unwrap-item.result there) in
    let known : IsKnown c.args.s.now.runs (Ran c.in-Some.x) = subst (IsKnown c.args.s.now.runs) c.in-Some.ensures.some (c.requires.known c.items.at c.unwrap-item.result there) in
    let low : c.in-Some.x.0 ≤ 64 = known.1 in
    let size = c.items.invariant.size in
    record {
      size = length-set c.items.counted c.in-Some.x.0 _ ∙ size;
      counted = counted_run c.args.s.now.history c.items.counted (chosen (take c.items.at start) (take c.items.at items)) (chosen (take (c.items.at + 1) start) (take (c.items.at + 1) items)) c.in-Some.x (not c.is_doomed.result) (omega (arith, low, size))
          (ap not (c.is_doomed.ensures ∙ ap (λ (p : WindowParts). is_some (doom_of p.history c.in-Some.x.0)) c.s.view_is))
          (more ∙ ap (λ i. chosen (take c.items.at start) (take c.items.at items) ++ i ∷ []) c.in-Some.ensures.some) c.items.invariant.counted;
    }

pub returns : goal.returns
returns c =
    let own = c.requires.flags in
    let many = items_length c.args.s.now.line in
    let end = (c.len-at-end.ensures.len ∙ ap (λ (p : WindowParts). length p.line) c.s.view_is) in
    all_counted c.args.s.now.history c.items.counted c.args.before.now (items_of c.args.s.now.line) c.items.at
    (omega (arith, own, end, c.items-test.false)) (omega (arith, many, end, c.items-test.false)) c.items.invariant.counted
