use Rattle.lock_leasing.proofs.Prelude.{Ran, ap, place_told, sym, untouched, up_to, ◌∙◌}
use Rattle.lock_leasing.proofs.Floors.{place_last}
use Rattle.lock_leasing.proofs.first_places.count_to_run.Goals as goal

pub count_through-requires : goal.count_through-requires
count_through-requires c = (place_told (Ran c.args.r) c.args.line.now.marks c.in-Some.at (untouched (Ran c.args.r)) (sym c.place_of.ensures.place ∙ c.in-Some.is)).0

pub returns-in-Some : goal.returns-in-Some
returns-in-Some c = c.count_through.ensures ∙ ap up_to (sym c.in-Some.is ∙ c.place_of.ensures.place ∙ place_last (Ran c.args.r) c.args.line.now.marks c.place_of.ensures.once)

pub returns-in-None : goal.returns-in-None
returns-in-None c = ap up_to (sym c.in-None.is ∙ c.place_of.ensures.place ∙ place_last (Ran c.args.r) c.args.line.now.marks c.place_of.ensures.once)
