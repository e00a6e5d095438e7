use Rattle.std.proofs.Common.{◌∙◌, ◌<◌, ap, arith}
use Rattle.std.proofs.lemmas.List.{reverse-reverse}
use Rattle.std.specs.Prelude.{slice_get}
use Rattle.device_gate.proofs.Places.{none_left, none_out_taken, numbers_after, one_back}
use Rattle.device_gate.proofs.gates.Gate.close.Goals as goal

pub loop-place-init : goal.loop-place-init
loop-place-init g c = (
  rw (c.self.invariant.none, c.reverse.ensures.items) (reverse-reverse c.self.inside.places.items ∙ ap (λ s. s.places) c.self.view_is),
  omega (arith, c.reverse.ensures.len, c.self.invariant.enough),
)

pub loop-place-preserved : goal.loop-place-preserved
loop-place-preserved g c =
    let roomy : 0 < c.loop-place.devices.spare = omega (arith, c.loop-place.invariant.1, c.in-Some.ensures.len) in (
      one_back _ _ _ _ _ _ _ c.loop-place.invariant.0 c.in-Some.ensures.items c.in-Home.is (rw c.unwrap.ensures at c.push.ensures.ok),
      omega (arith, c.loop-place.invariant.1, c.in-Some.ensures.len, c.push.ensures.used roomy),
    )

pub unreachable-requires : goal.unreachable-requires
unreachable-requires g c = none_out_taken _ _ _ _ _ _ _ c.loop-place.invariant.0 c.in-Some.ensures.items c.in-Out.is c.requires.home

pub returns-clause-numbers : goal.returns-clause-numbers
returns-clause-numbers g c =
    numbers_after g.D.Device.shows c.loop-place.devices.items c.loop-place.places.items _ c.loop-place.invariant.0 (none_left _ _ (omega arith) c.in_default.ensures.variant.1) (λ d device is. c.self.invariant.home d device (ap (λ s. slice_get s.places d) c.self.view_is ∙ is))
