use Rattle.hub_core.proofs.Prelude.{OpenHub, ap, configuration_of, is_run, scheduler_of, sym, ◌∙◌}
use Rattle.hub_core.proofs.calls.HubOrders.{standing_fits}
use Rattle.hub_core.proofs.calls.Placings.{holds_gap, placed_between, timed_place}
use Rattle.hub_core.proofs.open_windows.OpenWindow.decide_place.Goals as goal
use Rattle.timeline_scheduler.specs.Placings.{Planning}

pub place-requires-clause-may : goal.place-requires-clause-may
place-requires-clause-may g c =
    let timed = sym (ap (λ (s : OpenHub g.row.D.Denot). scheduler_of s.setting.mode) c.self.view_is) ∙ sym c.scheduler.ensures ∙ c.in-Timeline.is in
    Planning (configuration_of c.args.self.now) c.standing-standing.ensures (sym (ap (λ runs. is_run runs c.args.r.0) c.standing-standing.ensures.its_roster) ∙ c.requires.run) timed

pub place-requires-clause-room : goal.place-requires-clause-room
place-requires-clause-room g c = c.requires.scratch.devices ∙ sym c.standing-standing.ensures.its_table.devices

pub place-requires-clause-items : goal.place-requires-clause-items
place-requires-clause-items g c = standing_fits c.self.inside c.args.self.now _ c.args.scratch.now c.self.view_is c.standing-standing.ensures c.requires.scratch c.self.invariant

pub returns-in-Timeline-clause-choice : goal.returns-in-Timeline-clause-choice
returns-in-Timeline-clause-choice g c =
    let timed = sym (ap (λ (s : OpenHub g.row.D.Denot). scheduler_of s.setting.mode) c.self.view_is) ∙ sym c.scheduler.ensures ∙ c.in-Timeline.is in
    let exact = c.place.ensures.exact (configuration_of c.args.self.now) c.standing-standing.ensures timed in
    placed_between c.args.r.0 c.args.moment c.place.result _ _ exact.1 (sym (timed_place (configuration_of c.args.self.now) c.args.r.0 c.args.moment timed ∙ exact.0))

pub returns-in-Timeline-clause-planned : goal.returns-in-Timeline-clause-planned
returns-in-Timeline-clause-planned g c =
    λ none timed. holds_gap c.place.new.scratch (configuration_of c.args.self.now) c.args.r.0 c.args.moment c.place.result timed
    (c.place.ensures.before (configuration_of c.args.self.now) c.standing-standing.ensures timed)
    (c.place.ensures.planned (configuration_of c.args.self.now) c.standing-standing.ensures timed)
