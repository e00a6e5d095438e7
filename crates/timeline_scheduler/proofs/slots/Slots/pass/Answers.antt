use Rattle.timeline_scheduler.proofs.Prelude.{IsFirstFrom, Some, WindowParts, accesses_at, ap, arith, changed, changed_on, commands_of, device_below, devices_among, false, filter, latest_end, length, length-set, range_with_len, runs_of, slice_index_or, slot_behind, subst, sym, touches, ◌-◌, ◌<◌, ◌∙◌, ◌≡◌}
use Rattle.home_types.specs.Limits.{most_devices}
use Rattle.std.specs.FinSet as set
use Rattle.timeline_scheduler.proofs.DeviceWalks.{fold_done, fold_next, next_alike, none_alike, rest}
use Rattle.timeline_scheduler.proofs.SlotSets.{changed_is}
use Rattle.timeline_scheduler.proofs.slots.Slots.pass.Goals as goal

pub overflow_add-from : goal.overflow_add-from
overflow_add-from c =
    let runs = runs_of c.s.inside.roster.now in
    let low : c.in-Some.d.0 < most_devices = device_below c.in-Some.d.0 most_devices (commands_of runs c.args.r.0) (c.kept_invariant.ensures.low_devices c.args.r.0) (sym (c.devices-footprint.ensures c.in-Some.d.0) ∙ c.in-Some.ensures.1) in
    omega (arith, low)

pub index-slot-requires : goal.index-slot-requires
index-slot-requires c =
    let there = c.requires.homed c.args.r.0 c.in-Some.d.0 (sym (c.devices-footprint.ensures c.in-Some.d.0 ∙ ap (λ (p : WindowParts). touches p.runs c.args.r.0 c.in-Some.d.0) c.s.view_is) ∙ c.in-Some.ensures.1) in
    let size = c.devices.invariant.size in
    omega (arith, there, size)

pub chain-requires : goal.chain-requires
chain-requires c =
    let there = c.requires.homed c.args.r.0 c.in-Some.d.0 (sym (c.devices-footprint.ensures c.in-Some.d.0 ∙ ap (λ (p : WindowParts). touches p.runs c.args.r.0 c.in-Some.d.0) c.s.view_is) ∙ c.in-Some.ensures.1) in
    subst (λ (p : WindowParts). c.in-Some.d.0 < length p.table) (sym c.s.view_is) there

pub index_mut-requires : goal.index_mut-requires
index_mut-requires c =
    let there = c.requires.homed c.args.r.0 c.in-Some.d.0 (sym (c.devices-footprint.ensures c.in-Some.d.0 ∙ ap (λ (p : WindowParts). touches p.runs c.args.r.0 c.in-Some.d.0) c.s.view_is) ∙ c.in-Some.ensures.1) in
    let size = c.devices.invariant.size in
    omega (arith, there, size)

pub devices-smaller : goal.devices-smaller
devices-smaller c =
    let there = c.requires.homed c.args.r.0 c.in-Some.d.0 (sym (c.devices-footprint.ensures c.in-Some.d.0 ∙ ap (λ (p : WindowParts). touches p.runs c.args.r.0 c.in-Some.d.0) c.s.view_is) ∙ c.in-Some.ensures.1) in
    omega (arith, there, c.in-Some.ensures.0)

pub devices-preserved : goal.devices-preserved
devices-preserved c =
    let table = c.args.s.now.table in
    let slots = c.devices.self-inside.slots.items in
    let change = slot_behind table (λ x. slice_index_or c.args.counted.now x false) in
    let next : IsFirstFrom (touches c.args.s.now.runs c.args.r.0) c.devices.from.0 (Some c.in-Some.d.0) =
    next_alike (λ e. set.contains c.devices-footprint.result.now e) (touches c.args.s.now.runs c.args.r.0)
    (λ e. c.devices-footprint.ensures e ∙ ap (λ (p : WindowParts). touches p.runs c.args.r.0 e) c.s.view_is) c.devices.from.0 c.in-Some.d.0 c.in-Some.ensures in
    let there : c.in-Some.d.0 < length table = c.requires.homed c.args.r.0 c.in-Some.d.0 next.1 in
    let size = c.devices.invariant.size in
    let within : c.in-Some.d.0 < length slots = omega (arith, there, size) in
    record {
      size = length-set slots c.in-Some.d.0 _ ∙ size;
      nears = c.devices.invariant.nears;
      slots =
          fold_next (changed_on change) (touches c.args.s.now.runs c.args.r.0)
          (changed change (rest (touches c.args.s.now.runs c.args.r.0) (length table) 0) c.self.inside.slots.items)
          (length table) c.devices.from.0 c.in-Some.d.0 slots _ next.0 there next.1 next.2
          (changed_is change slots c.in-Some.d.0 c.index-slot.result.now (record c.index-slot.result.now { free = c.latest_end-free.result }) within c.index-slot.ensures
          (ap (λ t. record c.index-slot.result.now { free = t }) (c.latest_end-free.ensures
          ∙ ap (latest_end (λ x. slice_index_or c.args.counted.now x false)) (c.chain.ensures ∙ ap (λ (p : WindowParts). accesses_at p.table c.in-Some.d.0) c.s.view_is))))
          c.devices.invariant.slots;
    }

pub returns : goal.returns
returns c =
    let table = c.args.s.now.table in
    let runs = c.args.s.now.runs in
    let change = slot_behind table (λ x. slice_index_or c.args.counted.now x false) in
    let own = ap length c.self.view_is in
    let sizes = c.requires.size in
    let all : length table - 0 ≡ length c.self.inside.slots.items = omega (arith, own, sizes) in
    fold_done (changed_on change) (touches runs c.args.r.0)
    (changed change (rest (touches runs c.args.r.0) (length table) 0) c.self.inside.slots.items)
    (length table) c.devices.from.0 c.devices.self-inside.slots.items
    (none_alike (λ e. set.contains c.devices-footprint.result.now e) (touches runs c.args.r.0)
    (λ e. c.devices-footprint.ensures e ∙ ap (λ (p : WindowParts). touches p.runs c.args.r.0 e) c.s.view_is) c.devices.from.0 c.in_default.ensures)
    c.devices.invariant.slots
    ∙ ap (λ k. changed change (filter (touches runs c.args.r.0) (range_with_len 0 k)) c.self.inside.slots.items) all
    ∙ ap (λ xs. changed change (devices_among runs c.args.r.0 (length xs)) xs) c.self.view_is

pub invariant_of-self : goal.invariant_of-self
invariant_of-self c = c.devices.invariant.nears ∙ sym c.devices.invariant.size
