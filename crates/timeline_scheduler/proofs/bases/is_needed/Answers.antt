use Rattle.timeline_scheduler.proofs.Prelude.{WindowParts, ap, arith, false, front_of, items_of, meets, option_map, slice_get, sym, touches, unwrap_or, ◌<◌, ◌∙◌, ◌≤◌}
use Rattle.timeline_scheduler.proofs.ItemPlaces.{item_there}
use Rattle.timeline_scheduler.proofs.Needs.{seed_front, seed_met, seed_rest}
use Rattle.timeline_scheduler.proofs.bases.is_needed.Goals as goal

pub returns-then-at-front : goal.returns-then-at-front
returns-then-at-front c =
    let front = (c.front.ensures.front ∙ ap (λ (p : WindowParts). front_of p.line) c.s.view_is) in
    let before : c.args.at < front_of c.args.s.now.line = omega (arith, front, c.if-at-front.true) in
    seed_front c.args.s.now.history c.args.s.now.runs c.args.r.0 c.args.s.now.line c.args.at c.requires.there before

pub returns-then-meets : goal.returns-then-meets
returns-then-meets c =
    seed_met c.args.s.now.history c.args.s.now.runs c.args.r.0 c.args.s.now.line c.args.at c.requires.there c.devices.result.now
    (λ d. c.devices.ensures d ∙ ap (λ (p : WindowParts). touches p.runs c.args.r.0 d) c.s.view_is) (sym c.if-meets.true
    ∙ (c.meets.ensures ∙ ap (λ (p : WindowParts). unwrap_or (option_map (meets c.devices.result.now) (slice_get p.line c.args.at)) false) c.s.view_is))

pub unwrap-item-requires : goal.unwrap-item-requires
unwrap-item-requires c = item_there c.args.s.now.line c.args.at c.get.result (c.get.ensures ∙ ap (λ (p : WindowParts). slice_get (items_of p.line) c.args.at) c.s.view_is) c.requires.there

pub returns : goal.returns
returns c =
    let front = (c.front.ensures.front ∙ ap (λ (p : WindowParts). front_of p.line) c.s.view_is) in
    let behind : front_of c.args.s.now.line ≤ c.args.at = omega (arith, front, c.if-at-front.false) in
    seed_rest c.args.s.now.history c.args.s.now.runs c.args.r.0 c.args.s.now.line c.args.at c.requires.there c.devices.result.now (λ d. c.devices.ensures d ∙ ap (λ (p : WindowParts). touches p.runs c.args.r.0 d) c.s.view_is)
    c.unwrap-item.result c.binds_item.result behind (sym c.if-meets.false
    ∙ (c.meets.ensures ∙ ap (λ (p : WindowParts). unwrap_or (option_map (meets c.devices.result.now) (slice_get p.line c.args.at)) false) c.s.view_is))
    (sym (c.get.ensures ∙ ap (λ (p : WindowParts). slice_get (items_of p.line) c.args.at) c.s.view_is) ∙ c.unwrap-item.ensures) c.binds_item.ensures
