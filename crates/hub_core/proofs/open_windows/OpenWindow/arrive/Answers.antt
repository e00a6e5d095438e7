use Rattle.hub_core.proofs.calls.HubChanges.{Going, chosen_here, follows_here, has_place}
use Rattle.hub_core.proofs.calls.HubOrders.{arrives_whole}
use Rattle.hub_core.proofs.Prelude.{Arrived, Arrives, ap, refl, with_entry, ◌∙◌}
use Rattle.hub_core.proofs.open_windows.OpenWindow.arrive.Goals as goal

pub push-requires-clause-room : goal.push-requires-clause-room
push-requires-clause-room g c = has_place c.self.inside c.args.r.0 c.args.moment _ Going (chosen_here c.self.inside c.args.self.now c.args.r.0 c.args.moment Arrives c.self.view_is c.requires) c.self.invariant

pub push-requires-clause-follows : goal.push-requires-clause-follows
push-requires-clause-follows g c = rw c.max-self-inside.ensures (follows_here c.self.inside c.args.r.0 c.args.moment _ Going (chosen_here c.self.inside c.args.self.now c.args.r.0 c.args.moment Arrives c.self.view_is c.requires) c.self.invariant)

pub invariant_of-self : goal.invariant_of-self
invariant_of-self g c =
    let new = c.push.ensures ∙ ap (λ m. with_entry c.self.inside.history c.args.r.0 (Arrived c.args.r m)) c.max-self-inside.ensures in
    arrives_whole c.self.inside _ c.args.r.0 c.args.moment (record {
      chosen = chosen_here c.self.inside c.args.self.now c.args.r.0 c.args.moment Arrives c.self.view_is c.requires;
      new = λ i. record c.self.inside { history = new i; moment = c.max-self-inside.ensures i };
    }) refl c.self.invariant
