use Rattle.jit_scheduler.proofs.Prelude.{Ran, ap, false, is_item, items_of, nat_lt, option_map, sym, unwrap_or, ◌∙◌}
use Rattle.jit_scheduler.proofs.Fronts.{position_among}
use Rattle.jit_scheduler.proofs.denials.stands_before.Goals as goal

pub returns-in-Some : goal.returns-in-Some
returns-in-Some c = ap (λ o. unwrap_or (option_map (λ k. nat_lt k c.args.place) o) false) (sym c.in-Some.is ∙ c.place_of.ensures.place) ∙ position_among (is_item (Ran c.args.x)) (items_of c.args.line.now.marks) c.args.place

pub returns-in-None : goal.returns-in-None
returns-in-None c = ap (λ o. unwrap_or (option_map (λ k. nat_lt k c.args.place) o) false) (sym c.in-None.is ∙ c.place_of.ensures.place) ∙ position_among (is_item (Ran c.args.x)) (items_of c.args.line.now.marks) c.args.place
