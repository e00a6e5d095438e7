use Rattle.window_order.proofs.Prelude.{All, Command, List, ap, is_on, length, list_any, subst, sym, ◌<◌, ◌∙◌}
use Rattle.window_order.proofs.Scheduling.{may_schedule, on_command, schedules, schedules_none, schedules_start}
use Rattle.window_order.proofs.order_states.schedule.Goals as goal
use Rattle.window_order.proofs.order_states.schedule.Goals.{in-Some, in_default}

pub commands-init : goal.commands-init
commands-init c = schedules_start c.commands-commands.result.now c.args.uses.now c.args.r.0 _ c.none-done.result c.args.table.now c.none-done.ensures

pub commands-preserved : goal.commands-preserved
commands-preserved c =
    let homed = subst (λ (cs : List Command). All (λ (x : Command). x.device.0 < length c.args.table.now) cs) (sym c.commands-commands.ensures) c.requires.homed c.commands.command-index in
    let off = sym (c.commands.invariant.done_are _) ∙ sym c.has.ensures ∙ c.if-has.false in
    elim c.match-use_of.branch [
      | in-Some w ↦ rw (w.table-is, w.schedule.ensures, w.wait_again.ensures, w.first_behind-before.ensures, w.waiting.ensures, c.add.ensures)
          (schedules c.commands.command-index _ _ c.args.r.0 _ c.commands.done c.args.table.now c.commands.table _ _ c.commands.invariant c.commands-test.true
          (λ x. homed x c.commands-test.true) off (sym c.use_of.ensures ∙ w.in-Some.is))
      | in_default w ↦ rw (w.table-is, c.add.ensures) (schedules_none c.commands.command-index _ _ c.args.r.0 _ c.commands.done c.args.table.now c.commands.table _ c.commands.invariant c.commands-test.true off (sym c.use_of.ensures ∙ w.in_default.is))
    ]

pub schedule-requires-clause-new : goal.schedule-requires-clause-new
schedule-requires-clause-new c =
    let homed = subst (λ (cs : List Command). All (λ (x : Command). x.device.0 < length c.args.table.now) cs) (sym c.commands-commands.ensures) c.requires.homed c.commands.command-index in
    rw c.waiting.ensures (may_schedule c.commands.command-index c.commands-commands.result.now _ c.args.r.0 _ c.commands.done c.args.table.now c.commands.table c.wait_again.new.table _ c.first_behind-before.result c.commands.invariant (λ x. homed x c.commands-test.true)
    (sym (c.commands.invariant.done_are _) ∙ sym c.has.ensures ∙ c.if-has.false)
    (c.requires.new _ (homed _ c.commands-test.true) (ap (list_any (is_on _)) (sym c.commands-commands.ensures) ∙ on_command c.commands.command-index c.commands-commands.result.now _ c.commands-test.true)) c.first_behind-before.ensures c.wait_again.ensures).none

pub schedule-requires-clause-before : goal.schedule-requires-clause-before
schedule-requires-clause-before c =
    let homed = subst (λ (cs : List Command). All (λ (x : Command). x.device.0 < length c.args.table.now) cs) (sym c.commands-commands.ensures) c.requires.homed c.commands.command-index in
    (may_schedule c.commands.command-index c.commands-commands.result.now _ c.args.r.0 _ c.commands.done c.args.table.now c.commands.table c.wait_again.new.table _ c.first_behind-before.result c.commands.invariant (λ x. homed x c.commands-test.true)
    (sym (c.commands.invariant.done_are _) ∙ sym c.has.ensures ∙ c.if-has.false)
    (c.requires.new _ (homed _ c.commands-test.true) (ap (list_any (is_on _)) (sym c.commands-commands.ensures) ∙ on_command c.commands.command-index c.commands-commands.result.now _ c.commands-test.true)) c.first_behind-before.ensures c.wait_again.ensures).waits
