use Rattle.slot_disks.proofs.file_disks.fill_from.Given as goal
use Rattle.slot_disks.proofs.Prelude.{length, ◌≤◌}

abbrev pub invariant-loop : goal.invariant-loop
invariant-loop g l = l.count ≤ length l.into
