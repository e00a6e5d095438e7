use Rattle.lineage_table.proofs.DeviceCounts.{Counts, Sees}
use Rattle.lineage_table.proofs.tables.count_run.Given as goal
use Rattle.lineage_table.proofs.Prelude.{take}

-- the devices of the commands so far are seen, and each of these is counted
abbrev pub invariant-commands : goal.invariant-commands
invariant-commands l = Sees (take l.command-index l.commands) l.seen × Counts l.initial.counts l.seen l.counts
