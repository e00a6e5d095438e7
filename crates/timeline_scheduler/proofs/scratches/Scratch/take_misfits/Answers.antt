use Rattle.timeline_scheduler.proofs.Prelude.{Bool, Item, List, Mark, ScratchRoom, WindowParts, ap, arith, either_of, false, get_or_default, is_misfit, items_of, length, length-map, map, of_run, slice_get, sym, ◌<◌, ◌∙◌, ◌≡◌}
use Rattle.timeline_scheduler.proofs.ItemPlaces.{item_there, told_at}
use Rattle.timeline_scheduler.proofs.Taking.{all_taken, taken_in, taken_not, taken_too}
use Rattle.timeline_scheduler.proofs.scratches.Scratch.take_misfits.Goals as goal

-- as many items as marks
items_length : (marks : List Mark) → length (items_of marks) ≡ length marks
items_length marks = length-map marks (λ (m : Mark). m.item)

pub items-preserved-then-index : goal.items-preserved-then-index
items-preserved-then-index c =
    let test : Item → Bool = of_run (is_misfit c.args.s.now.table c.args.s.now.runs c.args.r.0 c.self.inside.slots) in
    let flags = c.items.self-inside.before.items in
    let own : length c.self.inside.before.items ≡ length c.args.s.now.line = ap (λ (s : ScratchRoom). length s.before) c.self.view_is ∙ c.requires.flags in
    let many = items_length c.args.s.now.line in
    let size = c.items.invariant.taken.size in
    let end = (c.len-at-end.ensures.len ∙ ap (λ (p : WindowParts). length p.line) c.s.view_is) in
    let within : c.items.at < length flags = omega (arith, own, size, end, c.items-test.true) in
    record {
      taken = taken_in test (items_of c.args.s.now.line) c.self.inside.before.items flags c.items.at c.items.some (omega (arith, own, many)) c.items.invariant.taken within
          (get_or_default flags c.items.at false c.index.result.now within ∙ sym c.index.ensures ∙ c.if-index.true);
      room = c.items.invariant.room;
      slots = c.items.invariant.slots;
      items = c.items.invariant.items;
      uses = c.items.invariant.uses;
    }

pub unwrap-item-requires : goal.unwrap-item-requires
unwrap-item-requires c =
    let end = (c.len-at-end.ensures.len ∙ ap (λ (p : WindowParts). length p.line) c.s.view_is) in
    item_there c.args.s.now.line c.items.at c.get.result (c.get.ensures ∙ ap (λ (p : WindowParts). slice_get (items_of p.line) c.items.at) c.s.view_is) (omega (arith, end, c.items-test.true))

pub items-preserved-then-not-is_misfit : goal.items-preserved-then-not-is_misfit
items-preserved-then-not-is_misfit c =
    let test : Item → Bool = of_run (is_misfit c.args.s.now.table c.args.s.now.runs c.args.r.0 c.self.inside.slots) in
    let items : List Item = items_of c.args.s.now.line in
    let flags = c.items.self-inside.before.items in
    let own : length c.self.inside.before.items ≡ length c.args.s.now.line = ap (λ (s : ScratchRoom). length s.before) c.self.view_is ∙ c.requires.flags in
    let many = items_length c.args.s.now.line in
    let size = c.items.invariant.taken.size in
    let end = (c.len-at-end.ensures.len ∙ ap (λ (p : WindowParts). length p.line) c.s.view_is) in
    let within : c.items.at < length flags = omega (arith, own, size, end, c.items-test.true) in
    record {
      taken = taken_not test items c.self.inside.before.items flags c.items.at c.items.some (omega (arith, own, many)) c.items.invariant.taken within
          c.unwrap-item.result (told_at items c.items.at c.unwrap-item.result
          (sym (c.get.ensures ∙ ap (λ (p : WindowParts). slice_get (items_of p.line) c.items.at) c.s.view_is) ∙ c.unwrap-item.ensures))
          (get_or_default flags c.items.at false c.index.result.now within ∙ sym c.index.ensures ∙ c.if-index.false)
          (sym c.if-not-is_misfit.true ∙ c.is_misfit.ensures.misfit ∙ ap (λ ss. of_run (is_misfit c.args.s.now.table c.args.s.now.runs c.args.r.0 ss) c.unwrap-item.result) c.items.invariant.slots);
      room = c.items.invariant.room;
      slots = c.is_misfit.ensures.slots ∙ c.items.invariant.slots;
      items = c.items.invariant.items;
      uses = c.items.invariant.uses;
    }

pub items-preserved : goal.items-preserved
items-preserved c =
    let test : Item → Bool = of_run (is_misfit c.args.s.now.table c.args.s.now.runs c.args.r.0 c.self.inside.slots) in
    let items : List Item = items_of c.args.s.now.line in
    let flags = c.items.self-inside.before.items in
    let own : length c.self.inside.before.items ≡ length c.args.s.now.line = ap (λ (s : ScratchRoom). length s.before) c.self.view_is ∙ c.requires.flags in
    let many = items_length c.args.s.now.line in
    let size = c.items.invariant.taken.size in
    let end = (c.len-at-end.ensures.len ∙ ap (λ (p : WindowParts). length p.line) c.s.view_is) in
    let within : c.items.at < length flags = omega (arith, own, size, end, c.items-test.true) in
    record {
      taken = taken_too test items c.self.inside.before.items flags c.items.at c.items.some (omega (arith, own, many)) c.items.invariant.taken within
          c.unwrap-item.result (told_at items c.items.at c.unwrap-item.result
          (sym (c.get.ensures ∙ ap (λ (p : WindowParts). slice_get (items_of p.line) c.items.at) c.s.view_is) ∙ c.unwrap-item.ensures))
          (get_or_default flags c.items.at false c.index.result.now within ∙ sym c.index.ensures ∙ c.if-index.false)
          (sym c.if-not-is_misfit.false ∙ c.is_misfit.ensures.misfit ∙ ap (λ ss. of_run (is_misfit c.args.s.now.table c.args.s.now.runs c.args.r.0 ss) c.unwrap-item.result) c.items.invariant.slots);
      room = c.items.invariant.room;
      slots = c.is_misfit.ensures.slots ∙ c.items.invariant.slots;
      items = c.items.invariant.items;
      uses = c.items.invariant.uses;
    }

pub returns-clause-flags : goal.returns-clause-flags
returns-clause-flags c =
    let test : Item → Bool = of_run (is_misfit c.args.s.now.table c.args.s.now.runs c.args.r.0 c.self.inside.slots) in
    let own : length c.self.inside.before.items ≡ length c.args.s.now.line = ap (λ (s : ScratchRoom). length s.before) c.self.view_is ∙ c.requires.flags in
    let many = items_length c.args.s.now.line in
    let size = c.items.invariant.taken.size in
    let end = (c.len-at-end.ensures.len ∙ ap (λ (p : WindowParts). length p.line) c.s.view_is) in
    let all = all_taken test (items_of c.args.s.now.line) c.self.inside.before.items c.items.self-inside.before.items c.items.at c.items.some (omega (arith, own, many)) c.items.invariant.taken (omega (arith, own, size, end, c.items-test.false)) in
    (λ i. record { slots = c.items.invariant.slots i; before = all i; items = c.items.invariant.items i; uses = (c.items.invariant.uses i).items })
    ∙ ap (λ (s : ScratchRoom). record s { before = either_of s.before (map (of_run (is_misfit c.args.s.now.table c.args.s.now.runs c.args.r.0 s.slots)) (items_of c.args.s.now.line)) }) c.self.view_is
