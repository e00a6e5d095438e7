use Rattle.call_log.proofs.Keeping.{finds_now}
use Rattle.call_log.proofs.call_logs.CallLog.release.Goals as goal
use Rattle.call_log.specs.CallLogs.{FindsAll}
use Rattle.std.proofs.Common.{subst, sym}

pub invariant_of-log : goal.invariant_of-log
invariant_of-log g c =
    let disk = c.self.inside.disk in
    let head = c.self.inside.head in
    let most = c.self.inside.most in (
      c.self.invariant.0,
      (λ told. subst (λ d. FindsAll g.Q.Disk.seen g.Q.Disk.moment g.Q.Disk.images_since head most d disk) (sym c.of-let_out.ensures)
          (finds_now g.Q.Disk.seen g.Q.Disk.moment g.Q.Disk.images_since (g.Q.Disk.images disk) head most disk (g.met.Q.Disk.only_now disk) (c.self.invariant.0.settled told).durable)),
    )
