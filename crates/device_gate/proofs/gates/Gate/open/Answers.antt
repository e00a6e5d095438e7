use Rattle.std.proofs.Common.{arith, refl}
use Rattle.device_gate.proofs.Places.{none_left, opens}
use Rattle.device_gate.proofs.gates.Gate.open.Goals as goal

pub invariant_of-result : goal.invariant_of-result
invariant_of-result g c = opens g.D.Device.shows c.args.devices.items _ c.loop-device.places.items _ _
    (rw c.in_default-pop.ensures.empty c.loop-device.invariant.0)
    (rw c.in_default-pop.ensures.empty (none_left c.loop-device.devices.items _ refl c.in_default-pop.ensures.found.1))
    c.reverse.ensures.items
    (rw c.in_default-pop.ensures.empty (omega (arith, c.loop-device.invariant.2)))
    c.requires.numbers
