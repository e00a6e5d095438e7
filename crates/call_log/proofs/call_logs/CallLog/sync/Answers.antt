use Rattle.call_log.proofs.Keeping.{finds_more, knows_more}
use Rattle.call_log.proofs.call_logs.CallLog.sync.Goals as goal
use Rattle.call_log.specs.CallLogs.{KnowsCalls, call_slots}
use Rattle.slot_disks.specs.SlotFiles.{IsSettled}
use Rattle.logged_calls.specs.Calls.{IsLoggable}
use Rattle.std.proofs.Common.{All, ap, arith, length, rules, subst, sym, ◌+◌, ◌≡◌, ◌∙◌}

pub invariant_of-log : goal.invariant_of-log
invariant_of-log g c =
    let inv = c.self.invariant.0 in
    let head = c.self.inside.head in
    let most = c.self.inside.most in
    let kept = c.self.inside.kept in
    let old = c.self.inside.disk in
    let new = c.write_calls.new.disk in
    let pending = c.as_slice.result.now in
    let count : length pending ≡ c.len.result = search rules in (
      record {
        few = omega (arith, inv.few, count, ap length c.as_slice.ensures.value, ap length c.clear.ensures.items);
        slots = c.in-Ok.ensures.group ∙ sym (ap call_slots c.clear.ensures.items);
        roomy = omega (arith, ap length c.in-Ok.ensures.group, inv.wide, c.write_calls.ensures.roomy);
        wide = omega (arith, inv.wide, c.write_calls.ensures.roomy);
        loggable = subst (All IsLoggable) (sym c.clear.ensures.items) (λ k d within. absurd (omega (arith, within)));
        settled = λ told. subst (λ n. IsSettled 24 (most + 1) (kept + n + 1) (g.Q.Disk.seen new) (g.Q.Disk.images new)) count (c.in-Ok.ensures.settled told);
        knows = λ told. subst (λ n. KnowsCalls head most (kept + n) (g.Q.Disk.seen new)) count (knows_more head most kept (g.Q.Disk.seen old) (g.Q.Disk.seen new) pending (inv.knows told) (c.in-Ok.ensures.kept told));
      },
      (λ told. finds_more g.Q.Disk.seen g.Q.Disk.moment g.Q.Disk.images_since head most kept c.self.inside.let_out.value old new pending (c.self.invariant.1 told) (inv.knows told) (c.write_calls.ensures.any_moment told) (c.in-Ok.ensures.kept told)),
    )
