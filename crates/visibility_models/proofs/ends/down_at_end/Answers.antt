use Rattle.visibility_models.proofs.Prelude.{ap, device_no, option_map, sym, ◌∙◌}
use Rattle.visibility_models.proofs.DownDevices.{down_is}
use Rattle.visibility_models.proofs.LineRuns.{on_its_way}
use Rattle.visibility_models.proofs.ends.down_at_end.Goals as goal

pub find_down-requires-clause-run : goal.find_down-requires-clause-run
find_down-requires-clause-run c = (on_its_way c.args.model c.args.s.now c.args.r c.requires (sym c.is_strict.ensures ∙ c.if-is_strict.true)).run

pub find_down-requires-clause-placed : goal.find_down-requires-clause-placed
find_down-requires-clause-placed c = (on_its_way c.args.model c.args.s.now c.args.r c.requires (sym c.is_strict.ensures ∙ c.if-is_strict.true)).placed

pub returns-then-is_strict-clause-down : goal.returns-then-is_strict-clause-down
returns-then-is_strict-clause-down c = λ s is.
    let strict = sym c.is_strict.ensures ∙ c.if-is_strict.true in
    let way = on_its_way c.args.model c.args.s.now c.args.r c.requires strict in
    c.find_down.ensures ∙ ap (option_map device_no) (down_is c.args.model s c.args.r c.args.s.now is way.placed strict)
