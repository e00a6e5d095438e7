use Rattle.call_log.proofs.Keeping.{finds_now, knows_found}
use Rattle.call_log.proofs.call_logs.CallLog.begin_anew.Goals as goal
use Rattle.call_log.specs.CallLogs.{FindsAll, IsSameOrNew, LogState, call_slots}
use Rattle.slot_disks.specs.Disks.{LeavesOnly}
use Rattle.std.proofs.Common.{[], ap, arith, length, subst, sym, true, ◌≡◌, ◌∙◌}

pub invariant_of-result : goal.invariant_of-result
invariant_of-result g c =
    let inv = c.self.invariant.0 in
    let head = c.args.head in
    let most = c.self.inside.most in
    let new = c.restart.new.disk in
    let none : c.self.inside.pending.items ≡ [] = ap (λ (s : LogState _ _ _). s.pending) c.self.view_is ∙ c.requires.synced in (
      record {
        few = omega (arith, ap length none);
        slots = c.restart.ensures.group ∙ sym (ap call_slots none);
        roomy = omega (arith, ap length c.restart.ensures.group, inv.wide, c.restart.ensures.roomy);
        wide = omega (arith, inv.wide, c.restart.ensures.roomy);
        loggable = inv.loggable;
        settled = λ told. c.in-Ok.ensures.settled told;
        knows = λ told. knows_found head most 0 (g.Q.Disk.seen new) (g.Q.Disk.images new) [] (c.in-Ok.ensures.settled told) (c.in-Ok.ensures.none told);
      },
      (λ told. subst (λ d. FindsAll g.Q.Disk.seen g.Q.Disk.moment g.Q.Disk.images_since head most d new) (sym c.of-let_out.ensures)
          (finds_now g.Q.Disk.seen g.Q.Disk.moment g.Q.Disk.images_since (g.Q.Disk.images new) head most new (g.met.Q.Disk.only_now new) (c.in-Ok.ensures.settled told).durable)),
    )

pub returns-in-Ok-clause-any_moment : goal.returns-in-Ok-clause-any_moment
returns-in-Ok-clause-any_moment g c =
    subst (λ (s : LogState _ _ _). g.Q.Disk.told ≡ true → LeavesOnly g.Q.Disk.moment g.Q.Disk.images_since s.disk c.restart.new.disk (IsSameOrNew s.head c.args.head s.most (g.Q.Disk.seen s.disk))) c.self.view_is
    (λ told. c.restart.ensures.any_moment told c.self.inside.head)

pub returns-clause-any_moment : goal.returns-clause-any_moment
returns-clause-any_moment g c =
    subst (λ (s : LogState _ _ _). g.Q.Disk.told ≡ true → LeavesOnly g.Q.Disk.moment g.Q.Disk.images_since s.disk c.restart.new.disk (IsSameOrNew s.head c.args.head s.most (g.Q.Disk.seen s.disk))) c.self.view_is
    (λ told. c.restart.ensures.any_moment told c.self.inside.head)
