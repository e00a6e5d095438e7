use Rattle.timeline_scheduler.proofs.Prelude.{ap, arith, length, length-set, no_slot, slice_set, ◌<◌, ◌∙◌}
use Rattle.timeline_scheduler.proofs.SlotSets.{cleared_more}
use Rattle.timeline_scheduler.proofs.slots.Slots.clear.Goals as goal

pub devices-preserved : goal.devices-preserved
devices-preserved c =
    let all = c.devices.invariant.1 in
    let here = c.devices-test.true in
    let within : c.devices.d < length c.self.inside.slots.items = omega (arith, all, here) in (
      length-set c.devices.self-inside.slots.items c.devices.d no_slot ∙ c.devices.invariant.0,
      c.devices.invariant.1,
      c.devices.invariant.2,
      ap (λ l. slice_set l c.devices.d no_slot) c.devices.invariant.3 ∙ cleared_more c.self.inside.slots.items c.devices.d within,
    )
