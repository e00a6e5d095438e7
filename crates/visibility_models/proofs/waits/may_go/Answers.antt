use Rattle.visibility_models.proofs.Prelude.{model_bars, sym, ◌∙◌}
use Rattle.visibility_models.proofs.Fronts.{waits_from_front}
use Rattle.visibility_models.proofs.LineRuns.{on_its_way}
use Rattle.visibility_models.proofs.StrictWaits.{wait_is}
use Rattle.visibility_models.proofs.waits.may_go.Goals as goal

pub find_unended-requires-clause-run : goal.find_unended-requires-clause-run
find_unended-requires-clause-run c = (on_its_way c.args.model c.args.s.now c.args.r c.requires (sym c.is_strict.ensures ∙ c.if-is_strict.true)).run

pub find_unended-requires-clause-known : goal.find_unended-requires-clause-known
find_unended-requires-clause-known c = (on_its_way c.args.model c.args.s.now c.args.r c.requires (sym c.is_strict.ensures ∙ c.if-is_strict.true)).others

pub find_unended-requires-clause-past : goal.find_unended-requires-clause-past
find_unended-requires-clause-past c =
    waits_from_front (model_bars c.args.model c.args.s.now.runs c.args.r.0) c.args.model c.args.s.now c.args.r.0 c.requires (sym c.is_strict.ensures ∙ c.if-is_strict.true)

pub returns-then-is_strict-clause-wait : goal.returns-then-is_strict-clause-wait
returns-then-is_strict-clause-wait c = λ s is.
    c.find_unended.ensures ∙ wait_is c.args.model s c.args.r.0 c.args.s.now is
