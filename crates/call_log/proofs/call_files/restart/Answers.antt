use Rattle.call_log.proofs.Keeping.{same_or_new}
use Rattle.call_log.proofs.call_files.restart.Goals as goal
use Rattle.call_log.specs.CallLogs.{IsSameOrNew}
use Rattle.slot_disks.proofs.Cited.{then_on, weaker}
use Rattle.std.proofs.Common.{inr}

pub returns-in_err-shut_first-clause-any_moment : goal.returns-in_err-shut_first-clause-any_moment
returns-in_err-shut_first-clause-any_moment g c told before =
    let seen = g.Q.Disk.seen c.args.disk.now in
    weaker g.Q.Disk.moment g.Q.Disk.images_since c.args.disk.now c.shut_first.new.disk _ (IsSameOrNew before c.args.head c.args.most seen)
    (λ d either. same_or_new before c.args.head c.args.most seen d either) (c.shut_first.ensures.any_moment told)

pub returns-clause-any_moment : goal.returns-clause-any_moment
returns-clause-any_moment g c told before =
    let seen = g.Q.Disk.seen c.args.disk.now in
    let P = IsSameOrNew before c.args.head c.args.most seen in
    let first = weaker g.Q.Disk.moment g.Q.Disk.images_since c.args.disk.now c.shut_first.new.disk _ P
    (λ d either. same_or_new before c.args.head c.args.most seen d either) (c.shut_first.ensures.any_moment told) in
    let second = weaker g.Q.Disk.moment g.Q.Disk.images_since c.shut_first.new.disk c.write_head.new.disk _ P
    (λ d none. inr none) (c.write_head.ensures.any_moment told) in
    then_on g.Q.Disk.moment g.Q.Disk.images_since c.args.disk.now c.shut_first.new.disk c.write_head.new.disk P first second
