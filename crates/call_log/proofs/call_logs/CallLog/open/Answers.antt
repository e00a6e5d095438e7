use Rattle.call_log.proofs.Keeping.{finds_now, knows_found, of_ok}
use Rattle.call_log.proofs.call_logs.CallLog.open.Goals as goal
use Rattle.call_log.specs.CallLogs.{FindsAll, call_slots}
use Rattle.call_log.specs.KeptCalls.{kept_calls}
use Rattle.slot_disks.specs.SlotFiles.{IsSettled}
use Rattle.logged_calls.specs.CallBytes.{calls_from}
use Rattle.logged_calls.specs.Calls.{IsLoggable}
use Rattle.std.proofs.Common.{All, ap, arith, length, subst, sym, true, ◌+◌, ◌≡◌, ◌≤◌, ◌∙◌}
use Rattle.std.specs.Prelude.{Ok}

pub invariant_of-log : goal.invariant_of-log
invariant_of-log g c =
    let head = c.args.head in
    let most = c.args.most in
    let old = c.args.disk in
    let new = c.open_file.new.disk in
    let kept = c.in-Ok-Ok.kept in
    let is = c.in-Ok-Ok.field-0-is in
    let few : kept ≤ most = of_ok c.in-Ok-Ok.field-0 kept (λ k. k ≤ most) is c.in-Ok-Ok.ensures.few in
    let settled : g.Q.Disk.told ≡ true → IsSettled 24 (most + 1) (kept + 1) (g.Q.Disk.seen new) (g.Q.Disk.images new) = (λ told. of_ok c.in-Ok-Ok.field-0 kept (λ k. IsSettled 24 (most + 1) (k + 1) (g.Q.Disk.seen new) (g.Q.Disk.images new)) is (c.in-Ok-Ok.ensures.settled told)) in
    let same : g.Q.Disk.told ≡ true → kept_calls head most (g.Q.Disk.seen new) ≡ kept_calls head most (g.Q.Disk.seen old) = (λ told. of_ok c.in-Ok-Ok.field-0 kept (λ _. kept_calls head most (g.Q.Disk.seen new) ≡ kept_calls head most (g.Q.Disk.seen old)) is (c.in-Ok-Ok.ensures.same told)) in
    let found : g.Q.Disk.told ≡ true → kept_calls head most (g.Q.Disk.seen old) ≡ Ok (calls_from c.open_file.new.calls.items) = (λ told. of_ok c.in-Ok-Ok.field-0 kept (λ _. kept_calls head most (g.Q.Disk.seen old) ≡ Ok (calls_from c.open_file.new.calls.items)) is (c.in-Ok-Ok.ensures.found told)) in (
      record {
        few = omega (arith, few, ap length c.new.ensures.items);
        slots = c.open_file.ensures.group ∙ sym (ap call_slots c.new.ensures.items);
        roomy = omega (arith, ap length c.open_file.ensures.group, c.open_file.ensures.roomy);
        wide = c.open_file.ensures.roomy;
        loggable = subst (All IsLoggable) (sym c.new.ensures.items) (λ k d within. absurd (omega (arith, within)));
        settled = settled;
        knows = λ told. knows_found head most kept (g.Q.Disk.seen new) (g.Q.Disk.images new) _ (settled told) (same told ∙ found told);
      },
      (λ told. subst (λ d. FindsAll g.Q.Disk.seen g.Q.Disk.moment g.Q.Disk.images_since head most d new) (sym c.of-let_out.ensures)
          (finds_now g.Q.Disk.seen g.Q.Disk.moment g.Q.Disk.images_since (g.Q.Disk.images new) head most new (g.met.Q.Disk.only_now new) (settled told).durable)),
    )
