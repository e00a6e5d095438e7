use Rattle.hub_core.proofs.calls.HubChanges.{Going, chosen_here, entered_answers, follows_here, has_place}
use Rattle.hub_core.proofs.calls.HubOrders.{dropped_there, drops_whole}
use Rattle.hub_core.proofs.open_windows.OpenWindow.drop_undo.Goals as goal
use Rattle.hub_core.proofs.Prelude.{Drops, Inside}

pub undone-requires : goal.undone-requires
undone-requires g c = dropped_there c.self.inside c.args.r.0 c.args.moment c.args.d.0 (chosen_here c.self.inside c.args.self.now c.args.r.0 c.args.moment (Drops c.args.d) c.self.view_is c.requires) c.self.invariant

pub push-requires-clause-room : goal.push-requires-clause-room
push-requires-clause-room g c = has_place c.self.inside c.args.r.0 c.args.moment _ Going (chosen_here c.self.inside c.args.self.now c.args.r.0 c.args.moment (Drops c.args.d) c.self.view_is c.requires) c.self.invariant

pub push-requires-clause-follows : goal.push-requires-clause-follows
push-requires-clause-follows g c = follows_here c.self.inside c.args.r.0 c.args.moment _ Going (chosen_here c.self.inside c.args.self.now c.args.r.0 c.args.moment (Drops c.args.d) c.self.view_is c.requires) c.self.invariant

pub invariant_of-self : goal.invariant_of-self
invariant_of-self g c =
    drops_whole c.self.inside _ c.args.r.0 c.args.moment c.args.d.0 (record {
      chosen = chosen_here c.self.inside c.args.self.now c.args.r.0 c.args.moment (Drops c.args.d) c.self.view_is c.requires;
      new = λ i. record c.self.inside { history = c.push.ensures i; moment = c.max-self-inside.ensures i; order = c.undone.new.self };
    }) c.undone.ensures.line c.undone.ensures.table c.self.invariant

pub returns-clause-answer : goal.returns-clause-answer
returns-clause-answer g c =
    let t : Inside g.row.D.Denot = record c.self.inside { history = c.push.new.self; moment = c.max-self-inside.result; order = c.undone.new.self } in
    entered_answers c.self.inside t c.args.self.now c.args.r.0 c.args.moment _ c.one_made.result c.self.view_is (record {
      chosen = chosen_here c.self.inside c.args.self.now c.args.r.0 c.args.moment (Drops c.args.d) c.self.view_is c.requires;
      new = λ i. record c.self.inside { history = c.push.ensures i; moment = c.max-self-inside.ensures i; order = c.undone.new.self };
    }) c.one_made.ensures
