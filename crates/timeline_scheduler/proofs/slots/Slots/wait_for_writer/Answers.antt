use Rattle.timeline_scheduler.proofs.Prelude.{ap, arith, changed, changed_on, commands_of, device_below, devices_among, length, length-set, refl, runs_of, slot_waiting, sym, ◌<◌, ◌∙◌}
use Rattle.home_types.specs.Limits.{most_devices}
use Rattle.timeline_scheduler.proofs.DeviceWalks.{fold_done, fold_next, rest}
use Rattle.timeline_scheduler.proofs.SlotSets.{changed_is}
use Rattle.timeline_scheduler.proofs.WriterWaits.{next_waiting, none_waiting, waiting_slot, waiting_below, waits_alone, waits_for, waits_touched}
use Rattle.timeline_scheduler.proofs.slots.Slots.wait_for_writer.Goals as goal

pub overflow_add-from : goal.overflow_add-from
overflow_add-from c =
    let runs = runs_of c.args.roster.now in
    let waits = next_waiting runs c.args.r.0 c.args.x.0 c.first_reads_of-waiting.result c.first_reads_of-waiting.ensures c.devices.from.0 c.in-Some.d.0 c.in-Some.ensures in
    let low : c.in-Some.d.0 < most_devices = device_below c.in-Some.d.0 most_devices (commands_of runs c.args.r.0) (c.kept_invariant.ensures.low_devices c.args.r.0) (waits_touched runs c.args.r.0 c.args.x.0 c.in-Some.d.0 waits.1) in
    omega (arith, low)

pub index-slot-requires : goal.index-slot-requires
index-slot-requires c =
    let there = waiting_below (runs_of c.args.roster.now) c.args.r.0 c.args.x.0 c.first_reads_of-waiting.result c.first_reads_of-waiting.ensures (length c.args.self.now) c.devices.from.0 c.in-Some.d.0 c.requires.homed c.in-Some.ensures in
    let old = ap length c.self.view_is in
    omega (arith, there, old, c.devices.invariant.0)

pub index_mut-requires : goal.index_mut-requires
index_mut-requires c =
    let there = waiting_below (runs_of c.args.roster.now) c.args.r.0 c.args.x.0 c.first_reads_of-waiting.result c.first_reads_of-waiting.ensures (length c.args.self.now) c.devices.from.0 c.in-Some.d.0 c.requires.homed c.in-Some.ensures in
    let old = ap length c.self.view_is in
    omega (arith, there, old, c.devices.invariant.0)

pub devices-smaller : goal.devices-smaller
devices-smaller c =
    let there = waiting_below (runs_of c.args.roster.now) c.args.r.0 c.args.x.0 c.first_reads_of-waiting.result c.first_reads_of-waiting.ensures (length c.args.self.now) c.devices.from.0 c.in-Some.d.0 c.requires.homed c.in-Some.ensures in
    let old = ap length c.self.view_is in
    omega (arith, there, old, c.in-Some.ensures.0)

pub devices-preserved : goal.devices-preserved
devices-preserved c =
    let runs = runs_of c.args.roster.now in
    let slots = c.devices.self-inside.slots.items in
    let waits = next_waiting runs c.args.r.0 c.args.x.0 c.first_reads_of-waiting.result c.first_reads_of-waiting.ensures c.devices.from.0 c.in-Some.d.0 c.in-Some.ensures in
    let there = waiting_below runs c.args.r.0 c.args.x.0 c.first_reads_of-waiting.result c.first_reads_of-waiting.ensures (length c.args.self.now) c.devices.from.0 c.in-Some.d.0 c.requires.homed c.in-Some.ensures in
    let old = ap length c.self.view_is in
    let size = c.devices.invariant.0 in (
      length-set slots c.in-Some.d.0 c.behind_writer.result ∙ size,
      fold_next (changed_on (slot_waiting runs c.args.r.0 c.args.x.0 c.args.whole)) (waits_for runs c.args.r.0 c.args.x.0)
          (changed (slot_waiting runs c.args.r.0 c.args.x.0 c.args.whole) (rest (waits_for runs c.args.r.0 c.args.x.0) (length c.self.inside.slots.items) 0) c.self.inside.slots.items)
          (length c.self.inside.slots.items) c.devices.from.0 c.in-Some.d.0 slots _ waits.0 (omega (arith, there, old)) waits.1 waits.2
          (changed_is (slot_waiting runs c.args.r.0 c.args.x.0 c.args.whole) slots c.in-Some.d.0 c.index-slot.result.now c.behind_writer.result (omega (arith, there, old, size)) c.index-slot.ensures
          (c.behind_writer.ensures ∙ waiting_slot runs c.args.r.0 c.args.x.0 c.args.whole c.in-Some.d.0 c.index-slot.result.now waits.1))
          c.devices.invariant.1,
      c.devices.invariant.2,
    )

pub returns : goal.returns
returns c =
    let runs = runs_of c.args.roster.now in
    fold_done (changed_on (slot_waiting runs c.args.r.0 c.args.x.0 c.args.whole)) (waits_for runs c.args.r.0 c.args.x.0)
    (changed (slot_waiting runs c.args.r.0 c.args.x.0 c.args.whole) (rest (waits_for runs c.args.r.0 c.args.x.0) (length c.self.inside.slots.items) 0) c.self.inside.slots.items)
    (length c.self.inside.slots.items) c.devices.from.0 c.devices.self-inside.slots.items (none_waiting runs c.args.r.0 c.args.x.0 c.first_reads_of-waiting.result c.first_reads_of-waiting.ensures c.devices.from.0 c.in_default.ensures) c.devices.invariant.1
    ∙ waits_alone runs c.args.r.0 c.args.x.0 c.args.whole (length c.self.inside.slots.items) c.self.inside.slots.items refl
    ∙ ap (λ xs. changed (slot_waiting runs c.args.r.0 c.args.x.0 c.args.whole) (devices_among runs c.args.r.0 (length xs)) xs) c.self.view_is

pub invariant_of-self : goal.invariant_of-self
invariant_of-self c = c.devices.invariant.2 ∙ c.self.invariant ∙ sym c.devices.invariant.0
