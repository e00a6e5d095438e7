use Rattle.std.proofs.Common.{Some, ap, arith, refl, sym, ◌∙◌}
use Rattle.std.proofs.lemmas.Option.{slice_get_read}
use Rattle.std.specs.Prelude.{slice_get}
use Rattle.device_gate.proofs.Places.{home_so_far}
use Rattle.device_gate.proofs.gates.Gate.first_out.Goals as goal

pub loop-at-preserved : goal.loop-at-preserved
loop-at-preserved g c =
    let read = slice_get_read c.self.inside.places.items _ c.loop-at.at c.index.result.now refl (omega (arith, c.loop-at-test.true, c.len-at-end.ensures)) c.index.ensures in
    home_so_far _ _ c.in-Home.field-0 c.loop-at.invariant (ap (λ s. slice_get s.places c.loop-at.at) (sym c.self.view_is) ∙ read ∙ ap (λ p. Some p) c.in-Home.is)
