use Rattle.timeline_scheduler.proofs.Prelude.{Some, access_of, accesses_at, ap, end_of_access, has_access, length, length-set, max, rules, sym, whole_passed, ℕ, ◌∙◌, ◌≡◌}
use Rattle.timeline_scheduler.proofs.DeviceWalks.{fold_done, fold_next}
use Rattle.timeline_scheduler.proofs.slots.Slots.whole_end.Goals as goal

pub devices-preserved : goal.devices-preserved
devices-preserved c =
    let table = c.args.table.now in
    let own : Some c.find-access.result ≡ access_of c.args.x.0 (accesses_at table c.in-Some.d.0) = sym c.find-access.ensures in
    let grown : c.max-whole.result ≡ max c.devices.whole c.find-access.result.to = search rules in
    record {
      slots = c.devices.invariant.slots;
      nears = length-set c.devices.self-inside.nears.items c.in-Some.d.0 c.find-access.new.near ∙ c.devices.invariant.nears;
      whole =
          fold_next (λ (t e : ℕ). max t (end_of_access (access_of c.args.x.0 (accesses_at table e)))) (λ e. has_access c.args.x.0 (accesses_at table e)) (whole_passed table c.args.x.0)
          (length table) c.devices.from.0 c.in-Some.d.0 c.devices.whole _ c.in-Some.ensures.next.0 c.in-Some.ensures.homed c.in-Some.ensures.next.1 c.in-Some.ensures.next.2 (grown ∙ ap (λ o. max c.devices.whole (end_of_access o)) own) c.devices.invariant.whole;
    }

pub returns-clause-whole : goal.returns-clause-whole
returns-clause-whole c =
    let table = c.args.table.now in
    fold_done (λ (t e : ℕ). max t (end_of_access (access_of c.args.x.0 (accesses_at table e)))) (λ e. has_access c.args.x.0 (accesses_at table e)) (whole_passed table c.args.x.0)
    (length table) c.devices.from.0 c.devices.whole c.in_default.ensures.next c.devices.invariant.whole
