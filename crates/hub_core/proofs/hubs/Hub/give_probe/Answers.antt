use Rattle.hub_core.proofs.Prelude.{IsProbeGiven, Slip, configuration_of, false, is_quiet, list_all, subst, sym, true, ◌≡◌, ◌≢◌, ◌⊎◌}
use Rattle.hub_core.proofs.kept.BlockedMarks.{none_blocked}
use Rattle.hub_core.proofs.calls.FinalItems.{probe_given_sealed, seen_so}
use Rattle.hub_core.proofs.calls.HubMarks.{marks_probe_given, model_before}
use Rattle.hub_core.proofs.calls.Placings.{kept_for}
use Rattle.hub_core.proofs.hubs.Hub.give_probe.Goals as goal
use Rattle.hub_core.proofs.hubs.Hub.give_probe.Goals.{else-is_weak, then-is_weak}
use Rattle.blocked_runs.specs.Marks.{AreLeft}
use Rattle.hub_core.specs.MarkedRuns.{IsAnsweredStill}

pub invariant_of-self-else-is_weak : goal.invariant_of-self-else-is_weak
invariant_of-self-else-is_weak g c = record {
  marks =
      marks_probe_given g.D.Device.shows c.self.inside.window c.give_probe.new.self c.args.grip
      c.in-Ok.made _ _ (model_before c.self.inside.window c.give_probe.new.self false c.give_probe.ensures.window (sym c.if-is_weak.ensures))
      (sym c.if-is_weak.ensures) c.whole_invariant.ensures c.whole_invariant-in-Ok.ensures
      (subst (λ made. IsProbeGiven c.self.inside.window c.args.grip made c.give_probe.new.self) c.in-Ok.is c.give_probe.ensures.given) c.self.invariant.marks
      (subst (λ (x : Slip). AreLeft c.self.inside.blocked c.free_back.new.blocked (λ e. IsAnsweredStill (configuration_of c.give_probe.new.self) x.device.0
      c.in-Ok.made ⊎ ((e ≢ x.device.0) × (list_all (is_quiet c.give_probe.new.self.setting e) c.in-Ok.made ≡ true))))
      c.slip.ensures c.free_back.ensures);
  scratch = kept_for c.self.inside.window c.give_probe.new.self c.self.inside.scratch c.give_probe.ensures.window c.self.invariant.scratch;
}

pub invariant_of-self : goal.invariant_of-self
invariant_of-self g c = record {
  marks = none_blocked _ _ c.unmark_all.ensures;
  scratch = kept_for c.self.inside.window c.give_probe.new.self c.self.inside.scratch c.give_probe.ensures.window c.self.invariant.scratch;
}

pub returns-after-is_weak-clause-sealed : goal.returns-after-is_weak-clause-sealed
returns-after-is_weak-clause-sealed g c = elim c.if-is_weak.branch [
  | then-is_weak w ↦ seen_so c.self.view_is w.self-is (probe_given_sealed g.D.Device.shows c.self.inside.window c.give_probe.new.self c.args.grip c.give_probe.result c.give_probe.ensures.given c.whole_invariant-in-Ok.ensures)
  | else-is_weak w ↦ seen_so c.self.view_is w.self-is (probe_given_sealed g.D.Device.shows c.self.inside.window c.give_probe.new.self c.args.grip c.give_probe.result c.give_probe.ensures.given c.whole_invariant-in-Ok.ensures)
]
