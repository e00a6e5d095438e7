use Rattle.hub_core.proofs.Prelude.{Joins, Placed, ap, refl, true, with_entry, ◌∙◌}
use Rattle.hub_core.proofs.calls.HubChanges.{Going, chosen_here, follows_here, has_place, strong_here}
use Rattle.hub_core.proofs.calls.HubOrders.{enters_whole, hub_absent, hub_known, joins_behind, joins_within, line_place}
use Rattle.hub_core.proofs.open_windows.OpenWindow.place_weakly.Goals as goal

pub insert-requires-clause-room : goal.insert-requires-clause-room
insert-requires-clause-room g c = line_place c.self.inside c.args.r.0 c.args.at c.args.moment (chosen_here c.self.inside c.args.self.now c.args.r.0 c.args.moment (Joins c.args.at) c.self.view_is c.requires.chosen) c.self.invariant

pub insert-requires-clause-place : goal.insert-requires-clause-place
insert-requires-clause-place g c = joins_within c.self.inside c.args.r.0 c.args.at c.args.moment (chosen_here c.self.inside c.args.self.now c.args.r.0 c.args.moment (Joins c.args.at) c.self.view_is c.requires.chosen) c.self.invariant

pub insert-requires-clause-unsealed : goal.insert-requires-clause-unsealed
insert-requires-clause-unsealed g c = joins_behind c.self.inside c.args.r.0 c.args.at c.args.moment (chosen_here c.self.inside c.args.self.now c.args.r.0 c.args.moment (Joins c.args.at) c.self.view_is c.requires.chosen) c.self.invariant

pub insert-requires-clause-absent : goal.insert-requires-clause-absent
insert-requires-clause-absent g c = hub_absent c.self.inside c.args.r.0 c.args.at c.args.moment (chosen_here c.self.inside c.args.self.now c.args.r.0 c.args.moment (Joins c.args.at) c.self.view_is c.requires.chosen) c.self.invariant

pub insert-requires-clause-known : goal.insert-requires-clause-known
insert-requires-clause-known g c = hub_known c.self.inside c.args.r.0 c.args.at c.args.moment (chosen_here c.self.inside c.args.self.now c.args.r.0 c.args.moment (Joins c.args.at) c.self.view_is c.requires.chosen) c.self.invariant

pub push-requires-clause-room : goal.push-requires-clause-room
push-requires-clause-room g c = has_place c.self.inside c.args.r.0 c.args.moment _ Going (chosen_here c.self.inside c.args.self.now c.args.r.0 c.args.moment (Joins c.args.at) c.self.view_is c.requires.chosen) c.self.invariant

pub push-requires-clause-follows : goal.push-requires-clause-follows
push-requires-clause-follows g c = rw c.max-self-inside.ensures (follows_here c.self.inside c.args.r.0 c.args.moment _ Going (chosen_here c.self.inside c.args.self.now c.args.r.0 c.args.moment (Joins c.args.at) c.self.view_is c.requires.chosen) c.self.invariant)

pub invariant_of-self : goal.invariant_of-self
invariant_of-self g c =
    let new = c.push.ensures ∙ ap (λ m. with_entry c.self.inside.history c.args.r.0 (Placed c.args.r c.args.at m)) c.max-self-inside.ensures in
    enters_whole c.self.inside _ c.args.r.0 c.args.at c.args.moment (record {
      chosen = chosen_here c.self.inside c.args.self.now c.args.r.0 c.args.moment (Joins c.args.at) c.self.view_is c.requires.chosen;
      new = λ i. record c.self.inside { history = new i; moment = c.max-self-inside.ensures i; order = record { line = c.insert.new.self; table = c.self.inside.order.table } };
    }) c.insert.ensures.marks c.insert.ensures.spare c.insert.ensures.runs c.insert.ensures.sealed refl (strong_here c.self.inside c.args.self.now true c.self.view_is c.requires.weak) c.self.invariant
