use Rattle.home_types.proofs.Cited.{take_snoc}
use Rattle.timeline_scheduler.proofs.Prelude.{Bool, List, ScratchRoom, WindowParts, [], ap, arith, length, seeds, subst, sym, take_all, ◌++◌, ◌+◌, ◌<◌, ◌^◌, ◌∙◌, ◌∷◌}
use Rattle.timeline_scheduler.proofs.Needs.{seeds_length}
use Rattle.timeline_scheduler.proofs.scratches.Scratch.seed.Goals as goal

pub items-preserved : goal.items-preserved
items-preserved c = record {
  flags = c.push_reserved.ensures.items ∙ ap (λ (l : List Bool). l ++ c.is_needed.result ∷ []) c.items.invariant.flags
      ∙ sym (take_snoc (seeds c.args.s.now.history c.args.s.now.runs c.args.r.0 c.args.s.now.line) c.items.at c.is_needed.result c.is_needed.ensures);
  room = c.push_reserved.ensures.capacity ∙ c.items.invariant.room;
  slots = c.items.invariant.slots;
  items = c.items.invariant.items;
  uses = c.items.invariant.uses;
}

pub returns-clause-flags : goal.returns-clause-flags
returns-clause-flags c =
    let all = seeds_length c.args.s.now.history c.args.s.now.runs c.args.r.0 c.args.s.now.line in
    let end = (c.len-at-end.ensures.len ∙ ap (λ (p : WindowParts). length p.line) c.s.view_is) in
    let flags = c.items.invariant.flags ∙ take_all c.items.at (seeds c.args.s.now.history c.args.s.now.runs c.args.r.0 c.args.s.now.line) (omega (arith, all, end, c.items-test.false)) in
    (λ i. record { slots = c.items.invariant.slots i; before = flags i; items = c.items.invariant.items i; uses = (c.items.invariant.uses i).items })
    ∙ ap (λ (s : ScratchRoom). record s { before = seeds c.args.s.now.history c.args.s.now.runs c.args.r.0 c.args.s.now.line }) c.self.view_is

pub returns-clause-few : goal.returns-clause-few
returns-clause-few c = let few : length c.args.s.now.line + c.s.inside.line.now.spare < 2 ^ 32 = subst (λ (p : WindowParts). length p.line + c.s.inside.line.now.spare < 2 ^ 32) c.s.view_is c.len-at-end.ensures.few in omega (arith, few)
