use Rattle.timeline_scheduler.proofs.Prelude.{Command, Fcfs, JustInTime, List, Run, Some, Timeline, ap, commands_of, inl, inr, is_on, list_any, planned_in_turn, planned_times, planned_use, scheduler_of, sym, ◌∙◌, ◌≡◌, ◌≢◌}
use Rattle.history_book.specs.ReadHistories.{read_in}
use Rattle.timeline_scheduler.proofs.HeldUses.{held_is_planned}
use Rattle.timeline_scheduler.proofs.PlannedInTurn.{planned_in_turn_is}
use Rattle.timeline_scheduler.proofs.PlannedUses.{planned_devices}
use Rattle.timeline_scheduler.proofs.plans.plan_uses.Goals as goal

pub returns-in-Fcfs : goal.returns-in-Fcfs
returns-in-Fcfs c = record {
  uses = λ front holds d on.
      c.use_in_turn.ensures.uses d (ap (λ (cs : List Command). list_any (is_on d) cs) commands_are ∙ on)
      ∙ ap (λ p. Some (planned_use p d)) (ap (planned_in_turn c.args.moment) commands_are ∙ sym (planned_in_turn_is c.args.history.now.setting (read_in c.args.history.now) c.args.r.0 front c.args.moment other));
  rest = c.use_in_turn.ensures.rest;
}
  where
    commands_are : c.commands-commands.result.now ≡ commands_of c.args.history.now.setting.runs c.args.r.0
    commands_are = c.commands-commands.ensures ∙ ap (λ (runs : List Run). commands_of runs c.args.r.0) c.roster.ensures

    other : scheduler_of c.args.history.now.setting.mode ≢ Timeline
    other e = elim c.in-Fcfs.is [
      | inl first ↦ absurd (let both : Fcfs ≡ Timeline = sym first ∙ c.scheduler.ensures ∙ e in cc)
      | inr late ↦ absurd (let both : JustInTime ≡ Timeline = sym late ∙ c.scheduler.ensures ∙ e in cc)
    ]

pub returns-in-Timeline : goal.returns-in-Timeline
returns-in-Timeline c = record {
  uses = λ front holds d on.
      let here = ap (λ (cs : List Command). list_any (is_on d) cs) commands_are ∙ on in
      c.use_as_planned.ensures.uses d here
      ∙ ap (λ u. Some u) (held_is_planned c.commands-commands.result.now c.args.scratch.now.slots (planned_times c.args.history.now.setting (read_in c.args.history.now) c.args.r.0 front c.args.moment) d (holds (sym c.scheduler.ensures ∙ c.in-Timeline.is))
      (planned_devices c.args.history.now.setting (read_in c.args.history.now) c.args.r.0 front c.args.moment d ∙ ap (λ (cs : List Command). list_any (is_on d) cs) (sym commands_are)) here);
  rest = c.use_as_planned.ensures.rest;
}
  where
    commands_are : c.commands-commands.result.now ≡ commands_of c.args.history.now.setting.runs c.args.r.0
    commands_are = c.commands-commands.ensures ∙ ap (λ (runs : List Run). commands_of runs c.args.r.0) c.roster.ensures
