use Rattle.hub_core.proofs.Prelude.{ChangesEach, Joins, LineageState, List, Mark, MayArrange, Placed, Ran, ap, arith, drop, false, is_run, items_of, length, planned_times, read_in, runs_of, scheduled_with, stands, subst, subst₂, sym, with_entry, with_item, ◌∙◌}
use Rattle.hub_core.proofs.calls.HubChanges.{Going, chosen_here, follows_here, has_place, strong_here}
use Rattle.hub_core.proofs.calls.HubOrders.{hub_arranged, hub_arranges, hub_joins, hub_known, joins_behind, joins_planned, joins_whole, joins_within, line_place, marks_then}
use Rattle.hub_core.proofs.kept.Arranged.{long_arranged}
use Rattle.hub_core.proofs.open_windows.OpenWindow.place.Goals as goal
use Rattle.timeline_scheduler.specs.PlannedUses.{AreUsesOf}
use Rattle.timeline_scheduler.specs.Scratches.{ScratchRoom}

pub arrange-requires-clause-flags : goal.arrange-requires-clause-flags
arrange-requires-clause-flags g c =
    λ timed. subst (λ bs. MayArrange bs c.self.inside.order.line) (sym (c.flags.ensures ∙ ap (λ (room : ScratchRoom). room.before) c.plan_uses.ensures.rest)) (hub_arranges c.self.inside c.args.self.now c.args.r.0 c.args.at
    c.args.moment c.args.scratch.now c.self.view_is c.requires.planned (sym c.scheduler.ensures ∙ timed) c.self.invariant)

pub arrange-requires-clause-sealed : goal.arrange-requires-clause-sealed
arrange-requires-clause-sealed g c = let sealed = c.self.invariant.order.sealed in omega (arith, sealed)

pub join-requires-clause-room : goal.join-requires-clause-room
join-requires-clause-room g c =
    let room = line_place c.self.inside c.args.r.0 c.args.at c.args.moment
    (chosen_here c.self.inside c.args.self.now c.args.r.0 c.args.moment (Joins c.args.at) c.self.view_is c.requires.chosen) c.self.invariant in
    let same = c.arrange.ensures.spare in
    omega (arith, room, same)

pub join-requires-clause-place : goal.join-requires-clause-place
join-requires-clause-place g c =
    let within = joins_within c.self.inside c.args.r.0 c.args.at c.args.moment (chosen_here c.self.inside c.args.self.now c.args.r.0 c.args.moment (Joins c.args.at) c.self.view_is c.requires.chosen) c.self.invariant in
    let size = ap length c.arrange.ensures.marks ∙ long_arranged c.scheduler.result c.flags.result.now c.self.inside.order.line.marks in
    omega (arith, within, size)

pub join-requires-clause-behind : goal.join-requires-clause-behind
join-requires-clause-behind g c =
    let behind = joins_behind c.self.inside c.args.r.0 c.args.at c.args.moment (chosen_here c.self.inside c.args.self.now c.args.r.0 c.args.moment (Joins c.args.at) c.self.view_is c.requires.chosen) c.self.invariant in
    let same = c.arrange.ensures.sealed in
    omega (arith, behind, same)

pub join-requires-clause-sealed : goal.join-requires-clause-sealed
join-requires-clause-sealed g c = c.arrange.ensures.front

pub join-requires-clause-known : goal.join-requires-clause-known
join-requires-clause-known g c = ap (λ runs. is_run runs c.args.r.0) c.arrange.ensures.runs ∙ hub_known c.self.inside c.args.r.0 c.args.at c.args.moment (chosen_here c.self.inside c.args.self.now c.args.r.0 c.args.moment (Joins c.args.at) c.self.view_is c.requires.chosen) c.self.invariant

pub join-requires-clause-absent : goal.join-requires-clause-absent
join-requires-clause-absent g c =
    let marks = hub_arranged c.self.inside c.args.self.now c.args.r.0 c.args.at c.args.moment c.args.scratch.now _ _ _ c.self.view_is c.requires.planned c.scheduler.ensures (c.flags.ensures ∙ ap (λ (room : ScratchRoom). room.before) c.plan_uses.ensures.rest) c.arrange.ensures.marks in
    ap (stands (Ran c.args.r)) marks ∙ (hub_joins c.self.inside c.args.r.0 c.args.at c.args.moment
    (chosen_here c.self.inside c.args.self.now c.args.r.0 c.args.moment (Joins c.args.at) c.self.view_is c.requires.chosen)
    (strong_here c.self.inside c.args.self.now false c.self.view_is c.requires.strong) c.self.invariant).absent

pub join-requires-clause-few : goal.join-requires-clause-few
join-requires-clause-few g c =
    rw c.arrange.ensures.table (hub_joins c.self.inside c.args.r.0 c.args.at c.args.moment
    (chosen_here c.self.inside c.args.self.now c.args.r.0 c.args.moment (Joins c.args.at) c.self.view_is c.requires.chosen)
    (strong_here c.self.inside c.args.self.now false c.self.view_is c.requires.strong) c.self.invariant).few

pub join-requires-clause-homed : goal.join-requires-clause-homed
join-requires-clause-homed g c =
    rw (c.arrange.ensures.table, c.roster.ensures) ((hub_joins c.self.inside c.args.r.0 c.args.at c.args.moment
    (chosen_here c.self.inside c.args.self.now c.args.r.0 c.args.moment (Joins c.args.at) c.self.view_is c.requires.chosen)
    (strong_here c.self.inside c.args.self.now false c.self.view_is c.requires.strong) c.self.invariant).homed)

pub join-requires-clause-new : goal.join-requires-clause-new
join-requires-clause-new g c =
    let marks = hub_arranged c.self.inside c.args.self.now c.args.r.0 c.args.at c.args.moment c.args.scratch.now _ _ _ c.self.view_is c.requires.planned c.scheduler.ensures (c.flags.ensures ∙ ap (λ (room : ScratchRoom). room.before) c.plan_uses.ensures.rest) c.arrange.ensures.marks in
    rw (c.arrange.ensures.table, c.roster.ensures, marks) ((hub_joins c.self.inside c.args.r.0 c.args.at c.args.moment
    (chosen_here c.self.inside c.args.self.now c.args.r.0 c.args.moment (Joins c.args.at) c.self.view_is c.requires.chosen)
    (strong_here c.self.inside c.args.self.now false c.self.view_is c.requires.strong) c.self.invariant).new)

pub push-requires-clause-room : goal.push-requires-clause-room
push-requires-clause-room g c = has_place c.self.inside c.args.r.0 c.args.moment _ Going (chosen_here c.self.inside c.args.self.now c.args.r.0 c.args.moment (Joins c.args.at) c.self.view_is c.requires.chosen) c.self.invariant

pub push-requires-clause-follows : goal.push-requires-clause-follows
push-requires-clause-follows g c = rw c.max-self-inside.ensures (follows_here c.self.inside c.args.r.0 c.args.moment _ Going (chosen_here c.self.inside c.args.self.now c.args.r.0 c.args.moment (Joins c.args.at) c.self.view_is c.requires.chosen) c.self.invariant)

pub plan_uses-requires-clause-homed : goal.plan_uses-requires-clause-homed
plan_uses-requires-clause-homed g c =
    λ k e within. let joins = (hub_joins c.self.inside c.args.r.0 c.args.at c.args.moment
    (chosen_here c.self.inside c.args.self.now c.args.r.0 c.args.moment (Joins c.args.at) c.self.view_is c.requires.chosen)
    (strong_here c.self.inside c.args.self.now false c.self.view_is c.requires.strong) c.self.invariant) in
    let few = joins.few in
    let homed = joins.homed k e within in
    omega (arith, few, homed)

pub invariant_of-self : goal.invariant_of-self
invariant_of-self g c =
    let chosen = (chosen_here c.self.inside c.args.self.now c.args.r.0 c.args.moment (Joins c.args.at) c.self.view_is c.requires.chosen) in
    let new = c.push.ensures ∙ ap (λ m. with_entry c.self.inside.history c.args.r.0 (Placed c.args.r c.args.at m)) c.max-self-inside.ensures in
    let marks = hub_arranged c.self.inside c.args.self.now c.args.r.0 c.args.at c.args.moment c.args.scratch.now _ _ _ c.self.view_is c.requires.planned c.scheduler.ensures (c.flags.ensures ∙ ap (λ (room : ScratchRoom). room.before) c.plan_uses.ensures.rest) c.arrange.ensures.marks in
    let changes = subst₂ (λ (ms : List Mark) (ls : List LineageState). ChangesEach (scheduled_with (runs_of c.roster.result.now) c.args.r.0 c.uses.result.now (drop c.args.at (items_of ms))) ls c.join.new.self.table) marks c.arrange.ensures.table c.join.ensures.table in
    let table = joins_planned c.self.inside c.args.self.now c.args.r.0 c.args.at c.args.moment c.max-self-inside.result c.args.scratch.now
    c.uses.result.now (runs_of c.roster.result.now) (drop c.args.at (items_of (marks_then c.self.inside c.args.r.0 c.args.moment)))
    c.join.new.self.table c.self.view_is c.requires.planned c.max-self-inside.ensures (λ front held. subst (λ us. AreUsesOf c.self.inside.history.setting.runs c.args.r.0 us (planned_times c.self.inside.history.setting (read_in c.self.inside.history) c.args.r.0 front c.max-self-inside.result)) (sym c.uses.ensures) (c.plan_uses.ensures.uses front held)) c.roster.ensures changes in
    joins_whole c.self.inside _ c.args.r.0 c.args.at c.args.moment (record {
      chosen = chosen;
      new = λ i. record c.self.inside { history = new i; moment = c.max-self-inside.ensures i; order = c.join.new.self };
    }) (record {
      marks = c.join.ensures.marks ∙ ap (with_item c.args.at (Ran c.args.r)) marks;
      spare = c.join.ensures.spare ∙ c.arrange.ensures.spare;
      runs = c.join.ensures.kept ∙ c.arrange.ensures.runs;
      sealed = c.join.ensures.sealed;
      table = table;
    }) (strong_here c.self.inside c.args.self.now false c.self.view_is c.requires.strong) c.self.invariant
