use Rattle.lock_leasing.proofs.Prelude.{WindowParts, ap, commands_of, front_of, rules, up_to_touched, ◌∙◌}
use Rattle.lock_leasing.proofs.Bindings.{first_is}
use Rattle.lock_leasing.proofs.first_places.first_place.Goals as goal

pub returns : goal.returns
returns c =
    first_is c.args.s.now c.args.r.0
    c.count_to_touched-touched.result c.count_to_followed-followed.result c.front.result c.max-2.result
    (c.count_to_touched-touched.ensures ∙ ap (λ (p : WindowParts). up_to_touched (commands_of p.runs c.args.r.0) p.line) c.s.view_is)
    c.count_to_followed-followed.ensures (c.front.ensures.front ∙ ap (λ (p : WindowParts). front_of p.line) c.s.view_is) (search rules)
