use Rattle.timeline_scheduler.proofs.Prelude.{IsGathered, Item, List, Mark, ScratchRoom, WindowParts, ap, arith, chosen, closure, drop, if◌then◌else◌, items_of, length, length-map, list_any, meet, refl, rules, slice_get, subst, suc, sym, vec_len, ◌-◌, ◌<◌, ◌||◌, ◌∙◌, ◌∷◌, ◌≡◌}
use Rattle.timeline_scheduler.proofs.Closing.{all_closed, chosen_next, closed_next, none_chosen, none_closed}
use Rattle.timeline_scheduler.proofs.ItemPlaces.{item_there, told_at}
use Rattle.timeline_scheduler.proofs.scratches.Scratch.close.Goals as goal

-- as many items as marks
items_length : (marks : List Mark) → length (items_of marks) ≡ length marks
items_length marks = length-map marks (λ (m : Mark). m.item)

pub items-init : goal.items-init
items-init c =
    let size : length c.self.inside.before.items ≡ length c.args.s.now.line = ap (λ (s : ScratchRoom). length s.before) c.self.view_is ∙ c.requires.size in
    let end = (c.len-at.ensures.len ∙ ap (λ (p : WindowParts). length p.line) c.s.view_is) in
    let many = items_length c.args.s.now.line in
    record {
      within = omega (arith, end);
      closed = none_closed (meet c.args.s.now.runs) c.self.inside.before.items (items_of c.args.s.now.line) c.len-at.result (omega (arith, end, size)) (omega (arith, size, many));
      gathered = subst (λ l. IsGathered c.args.s.now.runs l c.new-gathered.result) (sym (none_chosen c.self.inside.before.items (items_of c.args.s.now.line) c.len-at.result (omega (arith, end, many)))) (c.new-gathered.ensures c.args.s.now.runs);
      room = refl;
      slots = refl;
      items = refl;
      uses = refl;
    }

pub unwrap-item-requires : goal.unwrap-item-requires
unwrap-item-requires c =
    let there = c.items.invariant.within in
    item_there c.args.s.now.line (c.items.at - 1) c.get.result (c.get.ensures ∙ ap (λ (p : WindowParts). slice_get (items_of p.line) (c.items.at - 1)) c.s.view_is) (omega (arith, there, c.items-test.true))

pub index-flag-requires : goal.index-flag-requires
index-flag-requires c =
    let own = ap (λ (s : ScratchRoom). length s.before) c.self.view_is ∙ c.requires.size in
    let there = c.items.invariant.within in
    let size = c.items.invariant.closed.size in
    let count : length c.items.self-inside.before.items ≡ vec_len c.items.self-inside.before = search rules in
    omega (arith, there, size, own, count, c.items-test.true)

pub index_mut-requires : goal.index_mut-requires
index_mut-requires c =
    let own = ap (λ (s : ScratchRoom). length s.before) c.self.view_is ∙ c.requires.size in
    let there = c.items.invariant.within in
    let size = c.items.invariant.closed.size in
    let count : length c.items.self-inside.before.items ≡ vec_len c.items.self-inside.before = search rules in
    omega (arith, there, size, own, count, c.items-test.true)

pub items-preserved : goal.items-preserved
items-preserved c =
    let meets = meet c.args.s.now.runs in
    let items : List Item = items_of c.args.s.now.line in
    let flags = c.items.self-inside.before.items in
    let start = c.self.inside.before.items in
    let own : length start ≡ length c.args.s.now.line = ap (λ (s : ScratchRoom). length s.before) c.self.view_is ∙ c.requires.size in
    let there = c.items.invariant.within in
    let size = c.items.invariant.closed.size in
    let many = items_length c.args.s.now.line in
    let within : c.items.at - 1 < length flags = omega (arith, there, size, own, c.items-test.true) in
    let next : c.items.at ≡ suc (c.items.at - 1) = omega (arith, c.items-test.true) in
    let same : length start ≡ length items = omega (arith, own, many) in
    let item = told_at items (c.items.at - 1) c.unwrap-item.result (sym (c.get.ensures ∙ ap (λ (p : WindowParts). slice_get (items_of p.line) (c.items.at - 1)) c.s.view_is) ∙ c.unwrap-item.ensures) in
    record {
      within = omega (arith, there);
      closed = closed_next meets start items flags c.items.at (c.items.at - 1) c.index-flag.result.now c.unwrap-item.result c.items.invariant.closed next within same (sym c.index-flag.ensures) item c.take_in.result
          ((subst (λ (p : WindowParts). (is : List Item) → IsGathered p.runs is c.items.gathered
          → c.take_in.result ≡ (c.index-flag.result.now || list_any (meet p.runs c.unwrap-item.result) is)) c.s.view_is c.take_in.ensures.answer)
          (chosen (drop c.items.at flags) (drop c.items.at items)) c.items.invariant.gathered);
      gathered = subst (λ l. IsGathered c.args.s.now.runs l c.take_in.new.self)
          (sym (chosen_next meets start items flags c.items.at (c.items.at - 1) c.index-flag.result.now c.unwrap-item.result c.items.invariant.closed next within same (sym c.index-flag.ensures) item c.take_in.result))
          ((subst (λ (p : WindowParts). (is : List Item) → IsGathered p.runs is c.items.gathered
          → IsGathered p.runs (if c.take_in.result then c.unwrap-item.result ∷ is else is) c.take_in.new.self) c.s.view_is c.take_in.ensures.gathered)
          (chosen (drop c.items.at flags) (drop c.items.at items)) c.items.invariant.gathered);
      room = c.items.invariant.room;
      slots = c.items.invariant.slots;
      items = c.items.invariant.items;
      uses = c.items.invariant.uses;
    }

pub returns : goal.returns
returns c =
    let done = all_closed (meet c.args.s.now.runs) c.self.inside.before.items (items_of c.args.s.now.line) c.items.self-inside.before.items c.items.at (omega (arith, c.items-test.false)) c.items.invariant.closed in
    (λ i. record { slots = c.items.invariant.slots i; before = done i; items = c.items.invariant.items i; uses = (c.items.invariant.uses i).items })
    ∙ ap (λ (s : ScratchRoom). record s { before = closure (meet c.args.s.now.runs) s.before (items_of c.args.s.now.line) }) c.self.view_is
