use Rattle.hub_core.proofs.calls.FinalItems.{seen_so, turn_sealed}
use Rattle.hub_core.proofs.kept.BlockedMarks.{none_blocked}
use Rattle.hub_core.proofs.calls.HubMarks.{marks_goes, marks_wait, model_before}
use Rattle.hub_core.proofs.calls.Placings.{still_for, turn_earliest}
use Rattle.hub_core.proofs.hubs.Hub.take.Goals as goal
use Rattle.hub_core.proofs.hubs.Hub.take.Goals.{else-is_weak, then-is_weak}
use Rattle.hub_core.proofs.Prelude.{OpenHub, PlansEarliest, Setting, Slip, ap, configuration_of, false, is_weak, subst, sym, ◌∙◌, ◌≡◌, ◌≢◌}
use Rattle.blocked_runs.specs.Marks.{AreLeft}
use Rattle.hub_core.specs.MarkedRuns.{is_out_for_command}
use Rattle.hub_core.specs.declared.turns.Turn.TheVariants.{Go, Wait}

pub invariant_of-self : goal.invariant_of-self
invariant_of-self g c = record {
  marks = none_blocked _ _ c.unmark_all.ensures;
  scratch = still_for c.self.inside.window c.hand_out-grip.new.self c.self.inside.scratch c.decide-chosen.new.scratch c.decide-chosen.ensures.size c.hand_out-grip.ensures.window c.self.invariant.scratch;
}

pub invariant_of-self-else-is_weak : goal.invariant_of-self-else-is_weak
invariant_of-self-else-is_weak g c = record {
  marks =
      marks_goes g.D.Device.shows c.self.inside.window c.hand_out-grip.new.self c.args.r.0 c.args.moment _
      _ _ (model_before c.self.inside.window c.hand_out-grip.new.self false c.hand_out-grip.ensures.window (sym c.if-is_weak.ensures))
      (sym c.if-is_weak.ensures)
      c.whole_invariant.ensures c.whole_invariant-in-HandsOut.ensures c.hand_out-grip.ensures.out c.self.invariant.marks
      (subst (λ (x : Slip). AreLeft c.self.inside.blocked c.free_going.new.blocked
      (λ e. is_out_for_command (configuration_of c.hand_out-grip.new.self) x.device.0 ≡ false → e ≢ x.device.0)) c.slip.ensures c.free_going.ensures);
  scratch = still_for c.self.inside.window c.hand_out-grip.new.self c.self.inside.scratch c.decide-chosen.new.scratch c.decide-chosen.ensures.size c.hand_out-grip.ensures.window c.self.invariant.scratch;
}

pub invariant_of-self-then-not-is_weak : goal.invariant_of-self-then-not-is_weak
invariant_of-self-then-not-is_weak g c = record {
  marks =
      marks_wait g.D.Device.shows c.self.inside.window c.wait.new.self c.args.r.0 c.args.moment _ _ _
      (sym c.if-not-is_weak.ensures) (ap (λ (w : Setting). is_weak w.mode) c.wait.ensures.window.setting ∙ sym c.if-not-is_weak.ensures) c.whole_invariant.ensures
      c.whole_invariant-in-Waits.ensures c.wait.ensures.turn.0 c.self.invariant.marks c.mark_waiting.ensures;
  scratch = still_for c.self.inside.window c.wait.new.self c.self.inside.scratch c.decide-chosen.new.scratch c.decide-chosen.ensures.size c.wait.ensures.window c.self.invariant.scratch;
}

pub returns-after-is_weak-clause-sealed : goal.returns-after-is_weak-clause-sealed
returns-after-is_weak-clause-sealed g c = elim c.if-is_weak.branch [
  | then-is_weak w ↦ seen_so c.self.view_is w.self-is (turn_sealed g.D.Device.shows c.self.inside.window c.hand_out-grip.new.self c.args.r.0 c.args.moment (Go c.hand_out-grip.result) c.hand_out-grip.ensures.out c.whole_invariant-in-HandsOut.ensures)
  | else-is_weak w ↦ seen_so c.self.view_is w.self-is (turn_sealed g.D.Device.shows c.self.inside.window c.hand_out-grip.new.self c.args.r.0 c.args.moment (Go c.hand_out-grip.result) c.hand_out-grip.ensures.out c.whole_invariant-in-HandsOut.ensures)
]

pub returns-in-Waits-clause-sealed : goal.returns-in-Waits-clause-sealed
returns-in-Waits-clause-sealed g c = seen_so c.self.view_is (λ i. c.wait.new.self) (turn_sealed g.D.Device.shows c.self.inside.window c.wait.new.self c.args.r.0 c.args.moment (Wait c.in-Waits.why) c.wait.ensures.turn c.whole_invariant-in-Waits.ensures)

pub returns-in_default-clause-earliest : goal.returns-in_default-clause-earliest
returns-in_default-clause-earliest g c = subst (λ (s : OpenHub g.row.D.Denot). PlansEarliest (configuration_of s) c.args.r.0 c.make_step.result) c.self.view_is
    (turn_earliest c.self.inside.window c.make_step.new.window c.args.r.0 c.args.moment c.make_step.result c.make_step.ensures.turn)

pub returns-in_default-clause-sealed : goal.returns-in_default-clause-sealed
returns-in_default-clause-sealed g c =
    seen_so c.self.view_is (λ i. c.make_step.new.window) (turn_sealed g.D.Device.shows
    c.self.inside.window c.make_step.new.window c.args.r.0 c.args.moment c.make_step.result c.make_step.ensures.turn c.make_step.ensures.kept)
