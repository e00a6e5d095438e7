use Rattle.hub_core.proofs.Prelude.{Commits, Committed}
use Rattle.hub_core.proofs.calls.HubChanges.{Ending, chosen_here, follows_here, has_place}
use Rattle.hub_core.proofs.calls.HubOrders.{commits_whole}
use Rattle.hub_core.proofs.open_windows.OpenWindow.commit.Goals as goal

pub push-requires-clause-room : goal.push-requires-clause-room
push-requires-clause-room g c = has_place c.self.inside c.args.r.0 c.args.moment _ (Ending Committed) (chosen_here c.self.inside c.args.self.now c.args.r.0 c.args.moment Commits c.self.view_is c.requires) c.self.invariant

pub push-requires-clause-follows : goal.push-requires-clause-follows
push-requires-clause-follows g c = follows_here c.self.inside c.args.r.0 c.args.moment _ (Ending Committed) (chosen_here c.self.inside c.args.self.now c.args.r.0 c.args.moment Commits c.self.view_is c.requires) c.self.invariant

pub settle-requires : goal.settle-requires
settle-requires g c = record { sealed = c.self.invariant.order.sealed }

pub invariant_of-self : goal.invariant_of-self
invariant_of-self g c =
    commits_whole c.self.inside _ c.args.r.0 c.args.moment (record {
      chosen = chosen_here c.self.inside c.args.self.now c.args.r.0 c.args.moment Commits c.self.view_is c.requires;
      new = λ i. record c.self.inside { history = c.push.ensures i; moment = c.max-self-inside.ensures i; order = c.settle.new.self };
    }) c.settle.ensures.marks c.settle.ensures.spare c.settle.ensures.runs c.settle.ensures.sealed c.settle.ensures.table c.self.invariant
