use Rattle.hub_core.proofs.calls.HubMarks.{marks_probed, model_before}
use Rattle.hub_core.proofs.calls.Placings.{kept_for}
use Rattle.hub_core.proofs.kept.BlockedMarks.{none_blocked}
use Rattle.hub_core.proofs.Prelude.{IsProbed, None, Some, false, subst, sym}
use Rattle.hub_core.proofs.hubs.Hub.take_probe.Goals.{else-is_weak, then-is_weak}
use Rattle.hub_core.proofs.hubs.Hub.take_probe.Goals as goal

pub invariant_of-self-else-is_weak : goal.invariant_of-self-else-is_weak
invariant_of-self-else-is_weak g c = record {
  marks =
      marks_probed g.D.Device.shows c.self.inside.window c.take_probe.new.self c.args.d.0 _ _ _
      (model_before c.self.inside.window c.take_probe.new.self false c.take_probe.ensures.window (sym c.if-is_weak.ensures))
      (sym c.if-is_weak.ensures) c.whole_invariant.ensures c.whole_invariant-in-Some.ensures c.take_probe.ensures.probed c.self.invariant.marks c.unmark_at.ensures;
  scratch = kept_for c.self.inside.window c.take_probe.new.self c.self.inside.scratch c.take_probe.ensures.window c.self.invariant.scratch;
}

pub invariant_of-self : goal.invariant_of-self
invariant_of-self g c = record {
  marks = none_blocked _ _ c.unmark_all.ensures;
  scratch = kept_for c.self.inside.window c.take_probe.new.self c.self.inside.scratch c.take_probe.ensures.window c.self.invariant.scratch;
}

pub returns-in-None-clause-probed : goal.returns-in-None-clause-probed
returns-in-None-clause-probed g c =
    let is : IsProbed c.self.inside.window c.args.d.0 None c.take_probe.new.self = subst (λ probe. IsProbed c.self.inside.window c.args.d.0 probe c.take_probe.new.self) c.in-None.is c.take_probe.ensures.probed in
    subst (λ hub. IsProbed hub c.args.d.0 None c.take_probe.new.self) c.self.view_is is

pub returns-after-is_weak-clause-probed : goal.returns-after-is_weak-clause-probed
returns-after-is_weak-clause-probed g c =
    let is : IsProbed c.self.inside.window c.args.d.0 (Some c.in-Some.grip) c.take_probe.new.self = subst (λ probe. IsProbed c.self.inside.window c.args.d.0 probe c.take_probe.new.self) c.in-Some.is c.take_probe.ensures.probed in
    let before : IsProbed c.args.self.now c.args.d.0 (Some c.in-Some.grip) c.take_probe.new.self = subst (λ hub. IsProbed hub c.args.d.0 (Some c.in-Some.grip) c.take_probe.new.self) c.self.view_is is in
    elim c.if-is_weak.branch [
      | then-is_weak w ↦ subst (λ t. IsProbed c.args.self.now c.args.d.0 (Some c.in-Some.grip) t) (sym w.self-is) before
      | else-is_weak w ↦ subst (λ t. IsProbed c.args.self.now c.args.d.0 (Some c.in-Some.grip) t) (sym w.self-is) before
    ]
