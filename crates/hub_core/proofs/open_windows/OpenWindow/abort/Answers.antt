use Rattle.hub_core.proofs.Prelude.{Aborted, Aborts, configuration_of, live_stands, open_of, read_in}
use Rattle.hub_core.proofs.calls.HubChanges.{Ending, chosen_here, follows_here, has_place}
use Rattle.hub_core.proofs.calls.HubChoices.{aborting}
use Rattle.hub_core.proofs.calls.HubOrders.{aborts_whole, hub_finished, read_whole}
use Rattle.hub_core.proofs.kept.SealedOrders.{live_is_unsealed}
use Rattle.hub_core.proofs.open_windows.OpenWindow.abort.Goals as goal

pub withdraw-requires-clause-run : goal.withdraw-requires-clause-run
withdraw-requires-clause-run g c =
    let ends = aborting _ _ _ _ c.args.r.0 c.args.moment c.args.cause c.self.invariant.shown.configuration (chosen_here c.self.inside c.args.self.now c.args.r.0 c.args.moment (Aborts c.args.cause) c.self.view_is c.requires) in
    live_stands _ _ _ c.args.r.0 _ (read_whole c.self.inside c.self.invariant) ends.live c.self.invariant.order.line_is

pub withdraw-requires-clause-sealed : goal.withdraw-requires-clause-sealed
withdraw-requires-clause-sealed g c = c.self.invariant.order.sealed

pub withdraw-requires-clause-live : goal.withdraw-requires-clause-live
withdraw-requires-clause-live g c =
    let ends = aborting _ _ _ _ c.args.r.0 c.args.moment c.args.cause c.self.invariant.shown.configuration (chosen_here c.self.inside c.args.self.now c.args.r.0 c.args.moment (Aborts c.args.cause) c.self.view_is c.requires) in
    live_is_unsealed (read_in c.self.inside.history) (configuration_of (open_of c.self.inside)).grips c.args.r c.self.inside.order.line ends.live c.self.invariant.order.line_is c.self.invariant.order.sealed

pub withdraw-requires-clause-finished : goal.withdraw-requires-clause-finished
withdraw-requires-clause-finished g c =
    let ends = aborting _ _ _ _ c.args.r.0 c.args.moment c.args.cause c.self.invariant.shown.configuration (chosen_here c.self.inside c.args.self.now c.args.r.0 c.args.moment (Aborts c.args.cause) c.self.view_is c.requires) in
    hub_finished c.self.inside c.args.r.0 c.args.moment c.args.cause c.kept_invariant.ensures ends c.self.invariant

pub push-requires-clause-room : goal.push-requires-clause-room
push-requires-clause-room g c = has_place c.self.inside c.args.r.0 c.args.moment _ (Ending (Aborted c.args.cause)) (chosen_here c.self.inside c.args.self.now c.args.r.0 c.args.moment (Aborts c.args.cause) c.self.view_is c.requires) c.self.invariant

pub push-requires-clause-follows : goal.push-requires-clause-follows
push-requires-clause-follows g c = follows_here c.self.inside c.args.r.0 c.args.moment _ (Ending (Aborted c.args.cause)) (chosen_here c.self.inside c.args.self.now c.args.r.0 c.args.moment (Aborts c.args.cause) c.self.view_is c.requires) c.self.invariant

pub invariant_of-self : goal.invariant_of-self
invariant_of-self g c =
    aborts_whole c.self.inside _ c.args.r.0 c.args.moment c.args.cause (record {
      chosen = chosen_here c.self.inside c.args.self.now c.args.r.0 c.args.moment (Aborts c.args.cause) c.self.view_is c.requires;
      new = λ i. record c.self.inside { history = c.push.ensures i; moment = c.max-self-inside.ensures i; order = c.withdraw.new.self };
    }) (record { marks = c.withdraw.ensures.marks; spare = c.withdraw.ensures.spare; runs = c.withdraw.ensures.runs; sealed = c.withdraw.ensures.sealed; table = c.withdraw.ensures.table }) c.self.invariant
