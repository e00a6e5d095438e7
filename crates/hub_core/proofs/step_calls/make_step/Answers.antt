use Rattle.hub_core.proofs.calls.HubMarks.{marks_absent, marks_goes, marks_moved, marks_over, marks_wait, marks_weakly, model_before}
use Rattle.hub_core.proofs.step_calls.make_step.Goals as goal
use Rattle.hub_core.proofs.Prelude.{IsTurn, Slip, configuration_of, false, subst, sym, ◌≡◌, ◌≢◌}
use Rattle.blocked_runs.specs.Marks.{AreLeft}
use Rattle.hub_core.specs.MarkedRuns.{is_out_for_command}

pub returns-then-is_weak-clause-marks : goal.returns-then-is_weak-clause-marks
returns-then-is_weak-clause-marks g c = marks_weakly g.D.Device.shows c.args.window.now c.follow-turn.new.self c.args.r.0 c.args.moment _ _ (sym c.if-is_weak.ensures) c.whole_invariant-2.ensures c.follow-turn.ensures.turn c.free_weakly.ensures

pub returns-in-Go-clause-marks : goal.returns-in-Go-clause-marks
returns-in-Go-clause-marks g c =
    marks_goes g.D.Device.shows c.args.window.now c.follow-turn.new.self c.args.r.0 c.args.moment _ _ _
    (model_before c.args.window.now c.follow-turn.new.self false c.follow-turn.ensures.window (sym c.if-is_weak.ensures))
    (sym c.if-is_weak.ensures) c.whole_invariant.ensures c.whole_invariant-2.ensures
    (subst (λ t. IsTurn c.args.window.now c.args.r.0 c.args.moment t c.follow-turn.new.self) c.in-Go.is c.follow-turn.ensures.turn) c.requires.marks
    (subst (λ (x : Slip). AreLeft c.args.blocked.now c.free_going.new.blocked
    (λ e. is_out_for_command (configuration_of c.follow-turn.new.self) x.device.0 ≡ false → e ≢ x.device.0)) c.slip.ensures c.free_going.ensures)

pub returns-in-Moved-clause-marks : goal.returns-in-Moved-clause-marks
returns-in-Moved-clause-marks g c =
    marks_moved g.D.Device.shows c.args.window.now c.follow-turn.new.self c.args.r.0 c.args.moment _ _ _
    (model_before c.args.window.now c.follow-turn.new.self false c.follow-turn.ensures.window (sym c.if-is_weak.ensures))
    (sym c.if-is_weak.ensures) c.whole_invariant.ensures c.whole_invariant-2.ensures
    (subst (λ t. IsTurn c.args.window.now c.args.r.0 c.args.moment t c.follow-turn.new.self) c.in-Moved.is c.follow-turn.ensures.turn) c.requires.marks
    c.free_made.ensures

pub returns-in-Over-clause-marks : goal.returns-in-Over-clause-marks
returns-in-Over-clause-marks g c =
    marks_over g.D.Device.shows c.args.window.now c.follow-turn.new.self c.args.r.0 c.args.moment _ _ _ _
    (model_before c.args.window.now c.follow-turn.new.self false c.follow-turn.ensures.window (sym c.if-is_weak.ensures))
    (sym c.if-is_weak.ensures) c.whole_invariant.ensures c.whole_invariant-2.ensures
    (subst (λ t. IsTurn c.args.window.now c.args.r.0 c.args.moment t c.follow-turn.new.self) c.in-Over.is c.follow-turn.ensures.turn) c.requires.marks
    c.free_made-in-Over.ensures

pub returns-in-Wait-clause-marks : goal.returns-in-Wait-clause-marks
returns-in-Wait-clause-marks g c =
    marks_wait g.D.Device.shows c.args.window.now c.follow-turn.new.self c.args.r.0 c.args.moment _ _ _
    (model_before c.args.window.now c.follow-turn.new.self false c.follow-turn.ensures.window (sym c.if-is_weak.ensures))
    (sym c.if-is_weak.ensures) c.whole_invariant.ensures c.whole_invariant-2.ensures
    (subst (λ t. IsTurn c.args.window.now c.args.r.0 c.args.moment t c.follow-turn.new.self) c.in-Wait.is c.follow-turn.ensures.turn).0 c.requires.marks
    c.mark_waiting.ensures

pub returns-in-Absent-clause-marks : goal.returns-in-Absent-clause-marks
returns-in-Absent-clause-marks g c =
    marks_absent g.D.Device.shows c.args.window.now c.follow-turn.new.self c.args.r.0 c.args.moment _
    (model_before c.args.window.now c.follow-turn.new.self false c.follow-turn.ensures.window (sym c.if-is_weak.ensures))
    (sym c.if-is_weak.ensures) c.whole_invariant.ensures c.whole_invariant-2.ensures
    (subst (λ t. IsTurn c.args.window.now c.args.r.0 c.args.moment t c.follow-turn.new.self) c.in-Absent.is c.follow-turn.ensures.turn).0 c.requires.marks
