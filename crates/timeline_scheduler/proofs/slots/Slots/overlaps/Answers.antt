use Rattle.timeline_scheduler.proofs.Prelude.{IsFirstFrom, Some, WindowParts, access_of, accesses_at, ap, arith, false, has_access, is_misfit, length, length-set, overlaps, refl, slot_at, subst, sym, touches, true, ◌&&◌, ◌<◌, ◌∙◌, ◌≡◌}
use Rattle.std.specs.FinSet as set
use Rattle.timeline_scheduler.proofs.DeviceWalks.{any_done, any_found, any_next, next_alike, none_alike}
use Rattle.timeline_scheduler.proofs.Overlaps.{all_left, is_shared, overlaps_on}
use Rattle.timeline_scheduler.proofs.SlotSets.{slot_read}
use Rattle.timeline_scheduler.proofs.slots.Slots.overlaps.Goals as goal

pub shared-init : goal.shared-init
shared-init c = record {
  slots = refl;
  nears = refl;
  left = all_left c.args.s.now.table c.args.s.now.runs c.args.r.0 c.args.x.0 c.self.inside.slots.items (length c.args.s.now.table) (sym (ap length c.self.view_is ∙ c.requires.size));
}

pub shared-preserved : goal.shared-preserved
shared-preserved c =
    let table = c.args.s.now.table in
    let runs = c.args.s.now.runs in
    let start = c.self.inside.slots.items in
    let next : IsFirstFrom (is_shared table runs c.args.r.0 c.args.x.0) c.shared.from.0 (Some c.in-Some.d.0) =
    next_alike (λ e. set.contains c.devices_among-shared.result e) (is_shared table runs c.args.r.0 c.args.x.0) (λ e. (subst
    (λ (p : WindowParts). set.contains c.devices_among-shared.result e ≡ (has_access c.args.x.0 (accesses_at p.table e) && set.contains c.devices.result.now e))
    c.s.view_is (c.devices_among-shared.ensures.devices e)) ∙ ap (λ b. has_access c.args.x.0 (accesses_at table e) && b)
    (c.devices.ensures e ∙ ap (λ (p : WindowParts). touches p.runs c.args.r.0 e) c.s.view_is)) c.shared.from.0 c.in-Some.d.0 c.in-Some.ensures in
    let there : c.in-Some.d.0 < length table = subst (λ (p : WindowParts). c.in-Some.d.0 < length p.table) c.s.view_is (c.devices_among-shared.ensures.homed c.in-Some.d.0 c.in-Some.ensures.1).0 in
    let size : length c.shared.self-inside.slots.items ≡ length table = ap length c.shared.invariant.slots ∙ ap length c.self.view_is ∙ c.requires.size in
    let slot : slot_at start c.in-Some.d.0 ≡ c.index.result.now = ap (λ ss. slot_at ss c.in-Some.d.0) (sym c.shared.invariant.slots) ∙ slot_read c.shared.self-inside.slots.items c.in-Some.d.0 c.index.result.now (omega (arith, there, size)) c.index.ensures in
    let fails : overlaps_on table start c.args.x.0 c.in-Some.d.0 ≡ false = ap (overlaps (slot_at start c.in-Some.d.0))
    (subst (λ (p : WindowParts). access_of c.args.x.0 (accesses_at p.table c.in-Some.d.0) ≡ Some c.find-access.result) c.s.view_is c.find-access.ensures)
    ∙ ap (λ s. overlaps s (Some c.find-access.result)) slot ∙ sym c.overlaps.ensures ∙ c.if-overlaps.false in
    record {
      slots = c.shared.invariant.slots;
      nears = length-set c.shared.self-inside.nears.items c.in-Some.d.0 c.find-access.new.near ∙ c.shared.invariant.nears;
      left = any_next (overlaps_on table start c.args.x.0) (is_shared table runs c.args.r.0 c.args.x.0) (is_misfit table runs c.args.r.0 start c.args.x.0) (length table) c.shared.from.0 c.in-Some.d.0 next.0 there next.1 next.2 fails c.shared.invariant.left;
    }

pub returns-then-overlaps-clause-misfit : goal.returns-then-overlaps-clause-misfit
returns-then-overlaps-clause-misfit c =
    let table = c.args.s.now.table in
    let runs = c.args.s.now.runs in
    let start = c.self.inside.slots.items in
    let next : IsFirstFrom (is_shared table runs c.args.r.0 c.args.x.0) c.shared.from.0 (Some c.in-Some.d.0) =
    next_alike (λ e. set.contains c.devices_among-shared.result e) (is_shared table runs c.args.r.0 c.args.x.0) (λ e. (subst
    (λ (p : WindowParts). set.contains c.devices_among-shared.result e ≡ (has_access c.args.x.0 (accesses_at p.table e) && set.contains c.devices.result.now e))
    c.s.view_is (c.devices_among-shared.ensures.devices e)) ∙ ap (λ b. has_access c.args.x.0 (accesses_at table e) && b)
    (c.devices.ensures e ∙ ap (λ (p : WindowParts). touches p.runs c.args.r.0 e) c.s.view_is)) c.shared.from.0 c.in-Some.d.0 c.in-Some.ensures in
    let there : c.in-Some.d.0 < length table = subst (λ (p : WindowParts). c.in-Some.d.0 < length p.table) c.s.view_is (c.devices_among-shared.ensures.homed c.in-Some.d.0 c.in-Some.ensures.1).0 in
    let size : length c.shared.self-inside.slots.items ≡ length table = ap length c.shared.invariant.slots ∙ ap length c.self.view_is ∙ c.requires.size in
    let slot : slot_at start c.in-Some.d.0 ≡ c.index.result.now = ap (λ ss. slot_at ss c.in-Some.d.0) (sym c.shared.invariant.slots) ∙ slot_read c.shared.self-inside.slots.items c.in-Some.d.0 c.index.result.now (omega (arith, there, size)) c.index.ensures in
    let holds : overlaps_on table start c.args.x.0 c.in-Some.d.0 ≡ true = ap (overlaps (slot_at start c.in-Some.d.0))
    (subst (λ (p : WindowParts). access_of c.args.x.0 (accesses_at p.table c.in-Some.d.0) ≡ Some c.find-access.result) c.s.view_is c.find-access.ensures)
    ∙ ap (λ s. overlaps s (Some c.find-access.result)) slot ∙ sym c.overlaps.ensures ∙ c.if-overlaps.true in
    any_found (overlaps_on table start c.args.x.0) (is_shared table runs c.args.r.0 c.args.x.0) (is_misfit table runs c.args.r.0 start c.args.x.0) (length table) c.shared.from.0 c.in-Some.d.0 next.0 there next.1 next.2 holds c.shared.invariant.left
    ∙ ap (λ ss. is_misfit table runs c.args.r.0 ss c.args.x.0) c.self.view_is

pub returns-clause-misfit : goal.returns-clause-misfit
returns-clause-misfit c =
    let table = c.args.s.now.table in
    let runs = c.args.s.now.runs in
    let start = c.self.inside.slots.items in
    any_done (overlaps_on table start c.args.x.0) (is_shared table runs c.args.r.0 c.args.x.0) (is_misfit table runs c.args.r.0 start c.args.x.0) (length table) c.shared.from.0
    (none_alike (λ e. set.contains c.devices_among-shared.result e) (is_shared table runs c.args.r.0 c.args.x.0) (λ e. (subst
    (λ (p : WindowParts). set.contains c.devices_among-shared.result e ≡ (has_access c.args.x.0 (accesses_at p.table e) && set.contains c.devices.result.now e))
    c.s.view_is (c.devices_among-shared.ensures.devices e)) ∙ ap (λ b. has_access c.args.x.0 (accesses_at table e) && b)
    (c.devices.ensures e ∙ ap (λ (p : WindowParts). touches p.runs c.args.r.0 e) c.s.view_is)) c.shared.from.0 c.in_default.ensures)
    c.shared.invariant.left
    ∙ ap (λ ss. is_misfit table runs c.args.r.0 ss c.args.x.0) c.self.view_is
