use Rattle.hub_core.proofs.calls.HubChanges.{chosen_here}
use Rattle.hub_core.proofs.calls.HubOrders.{handed_whole, may_mark}
use Rattle.hub_core.proofs.calls.HubOuts.{IsHanded, command_given, may_send, went_out}
use Rattle.hub_core.proofs.open_windows.OpenWindow.hand_out.Goals as goal
use Rattle.hub_core.proofs.Prelude.{Inside, ap, configuration_of, refl, sym, task_of, ◌∙◌}
use Rattle.hub_core.specs.declared.decisions.Chosen.TheVariants.{HandsOut}

pub task-task-requires : goal.task-task-requires
task-task-requires g c = record { command = λ k for. command_given _ _ c.args.self.now c.args.r.0 c.args.moment c.args.d.0 k c.args.purpose c.self.invariant.shown c.self.view_is c.requires for }

pub touch-requires : goal.touch-requires
touch-requires g c =
    let may = may_mark _ _ _ _ c.args.r.0 c.args.moment c.args.d.0 _ _ _ c.self.invariant.shown.configuration
    (chosen_here c.self.inside c.args.self.now c.args.r.0 c.args.moment (HandsOut c.args.d c.args.purpose) c.self.view_is c.requires)
    c.self.invariant.order.line_is c.self.invariant.order.table_is.devices in
    record { run = may.stands; device = may.device; homed = may.homed }

pub send-requires : goal.send-requires
send-requires g c = record {
  may =
      may_send c.self.inside c.args.r.0 c.args.moment c.args.d.0 _ c.known-known.result c.task-task.result
      (chosen_here c.self.inside c.args.self.now c.args.r.0 c.args.moment (HandsOut c.args.d c.args.purpose) c.self.view_is c.requires) c.known-known.ensures
      c.self.invariant;
}

pub invariant_of-self : goal.invariant_of-self
invariant_of-self g c =
    let t : Inside g.row.D.Denot = record c.self.inside { moment = c.max-self-inside.result; checkouts = c.send.new.self; order = c.touch.new.self } in
    let handed : IsHanded g.D.Device.shows c.self.inside t c.args.r.0 c.args.moment c.args.d.0 c.args.purpose c.known-known.result c.task-task.result c.send.result = record {
      chosen = chosen_here c.self.inside c.args.self.now c.args.r.0 c.args.moment (HandsOut c.args.d c.args.purpose) c.self.view_is c.requires;
      does = c.task-task.ensures ∙ ap (λ s. task_of (configuration_of s) c.args.r.0 c.args.purpose) (sym c.self.view_is);
      known_is = c.known-known.ensures;
      sent = c.send.ensures.sent;
      moment_is = c.max-self-inside.ensures;
      new = refl;
    } in
    handed_whole c.self.inside t c.args.r.0 c.args.moment c.args.d.0 c.args.purpose _ _ _ handed (record { marks = c.touch.ensures.marks; spare = c.touch.ensures.spare; runs = c.touch.ensures.runs; sealed = c.touch.ensures.sealed; table = c.touch.ensures.table }) c.self.invariant

pub returns : goal.returns
returns g c =
    let t : Inside g.row.D.Denot = record c.self.inside { moment = c.max-self-inside.result; checkouts = c.send.new.self; order = c.touch.new.self } in
    let handed : IsHanded g.D.Device.shows c.self.inside t c.args.r.0 c.args.moment c.args.d.0 c.args.purpose c.known-known.result c.task-task.result c.send.result = record {
      chosen = chosen_here c.self.inside c.args.self.now c.args.r.0 c.args.moment (HandsOut c.args.d c.args.purpose) c.self.view_is c.requires;
      does = c.task-task.ensures ∙ ap (λ s. task_of (configuration_of s) c.args.r.0 c.args.purpose) (sym c.self.view_is);
      known_is = c.known-known.ensures;
      sent = c.send.ensures.sent;
      moment_is = c.max-self-inside.ensures;
      new = refl;
    } in
    let made = went_out c.self.inside t c.args.self.now c.args.r.0 c.args.moment c.args.d.0 c.args.purpose _ _ _ c.self.view_is handed c.self.invariant in
    record { out = made.out; window = made.window }
