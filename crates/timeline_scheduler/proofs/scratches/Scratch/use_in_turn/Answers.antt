use Rattle.timeline_scheduler.proofs.Prelude.{None, ScratchRoom, Some, ap, arith, drop_all, get_or, length, planned_in_turn, refl, slice_get, sym, ◌<◌, ◌∙◌, ◌≡◌, ◌≤◌}
use Rattle.std.proofs.lemmas.Option.{get_or_from_slice_get, slice_get-get_or, slice_get_within}
use Rattle.timeline_scheduler.proofs.PlannedUses.{use_from, use_is}
use Rattle.timeline_scheduler.proofs.scratches.Scratch.use_in_turn.Goals as goal

pub commands-init : goal.commands-init
commands-init c = record {
  size = size;
  each = λ d on.
      let none : slice_get c.self.inside.uses.items d ≡ Some None = ap (λ (room : ScratchRoom). slice_get room.uses d) c.self.view_is ∙ c.forget_uses.ensures.uses d on in
      let within : d < length c.self.inside.uses.items = slice_get_within c.self.inside.uses.items d None none in (
        omega (arith, within, size),
        ap (λ u. use_from d u (planned_in_turn c.args.moment c.args.commands.now)) (get_or_from_slice_get c.self.inside.uses.items d None None none) ∙ use_is d (planned_in_turn c.args.moment c.args.commands.now),
      );
  slots = refl;
  before = refl;
  items = refl;
}
  where
    size : length c.self.inside.uses.items ≡ 256
    size = c.self.invariant.2

pub returns-clause-uses : goal.returns-clause-uses
returns-clause-uses c =
    let all : length c.args.commands.now ≤ c.commands.command-index = c.commands-test.false in
    let uses = c.commands.self-inside.uses.items in
    let size = c.commands.invariant.size in
    λ d on. (let here = c.commands.invariant.each d on in
    let few = here.0 in
    slice_get-get_or uses d None (omega (arith, few, size))
    ∙ ap (λ u. Some u) (sym (ap (λ cs. use_from d (get_or uses d None) (planned_in_turn c.commands.clock cs)) (drop_all c.commands.command-index c.args.commands.now all)) ∙ here.1))
