use Rattle.hub_core.proofs.calls.HubChanges.{Going, chosen_here, follows_here, has_place}
use Rattle.hub_core.proofs.calls.HubOrders.{fails_whole}
use Rattle.hub_core.proofs.open_windows.OpenWindow.fail_at_end.Goals as goal
use Rattle.hub_core.proofs.Prelude.{FailsAtEnd}

pub push-requires-clause-room : goal.push-requires-clause-room
push-requires-clause-room g c = has_place c.self.inside c.args.r.0 c.args.moment _ Going (chosen_here c.self.inside c.args.self.now c.args.r.0 c.args.moment (FailsAtEnd c.args.d) c.self.view_is c.requires) c.self.invariant

pub push-requires-clause-follows : goal.push-requires-clause-follows
push-requires-clause-follows g c = follows_here c.self.inside c.args.r.0 c.args.moment _ Going (chosen_here c.self.inside c.args.self.now c.args.r.0 c.args.moment (FailsAtEnd c.args.d) c.self.view_is c.requires) c.self.invariant

pub invariant_of-self : goal.invariant_of-self
invariant_of-self g c =
    fails_whole c.self.inside _ c.args.r.0 c.args.moment c.args.d (record {
      chosen = chosen_here c.self.inside c.args.self.now c.args.r.0 c.args.moment (FailsAtEnd c.args.d) c.self.view_is c.requires;
      new = λ i. record c.self.inside { history = c.push.ensures i; moment = c.max-self-inside.ensures i; order = c.doom.new.self };
    }) c.doom.ensures.line c.doom.ensures.table c.self.invariant
