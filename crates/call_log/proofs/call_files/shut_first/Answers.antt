use Rattle.call_log.proofs.Keeping.{shuts_first}
use Rattle.call_log.proofs.call_files.shut_first.Goals as goal
use Rattle.slot_disks.proofs.Cited.{both_ok}
use Rattle.std.proofs.Common.{◌+◌}

pub returns-clause-settled : goal.returns-clause-settled
returns-clause-settled g c told =
    both_ok c.write_synced.result _ _ _ (c.write_synced.ensures.written told) (c.write_synced.ensures.durable told)
    (λ holds only. shuts_first (c.args.most + 1) (g.Q.Disk.seen c.args.disk.now) (g.Q.Disk.seen c.write_synced.new.disk) (g.Q.Disk.images c.write_synced.new.disk) holds only)
