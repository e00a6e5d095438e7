use Rattle.hub_core.proofs.calls.Placings.{joins_unplaced}
use Rattle.hub_core.proofs.open_windows.OpenWindow.follow.Goals as goal
use Rattle.hub_core.specs.Decisions.{told_choice}
use Rattle.hub_core.proofs.Prelude.{choice_of, configuration_of, max, subst, sym, ◌≡◌}
use Rattle.hub_core.specs.PlannedPlaces.{HoldsChosen}

-- a run that is to be placed has no place yet, so the scratch holds its times
pub join-requires-clause-planned : goal.join-requires-clause-planned
join-requires-clause-planned g c =
    subst (λ x. HoldsChosen c.args.scratch.now (configuration_of c.args.self.now) c.args.r.0 (max c.args.self.now.moment c.args.moment) x) c.in-Joins.is c.requires.planned
    (joins_unplaced (configuration_of c.args.self.now) c.args.r.0 c.in-Joins.place c.args.moment (sym (subst (λ x. told_choice c.args.r.0 (max c.args.self.now.moment c.args.moment) x ≡ choice_of (configuration_of c.args.self.now) c.args.r.0 c.args.moment) c.in-Joins.is c.requires.chosen)))
