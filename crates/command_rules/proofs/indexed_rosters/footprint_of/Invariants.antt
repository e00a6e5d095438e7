use Rattle.command_rules.proofs.FirstUses.{CoversUses}
use Rattle.command_rules.proofs.FootprintBits.{Covers}
use Rattle.command_rules.proofs.indexed_rosters.footprint_of.Given as goal
use Rattle.command_rules.proofs.Prelude.{length, ◌-◌, ◌≡◌}

-- the commands passed so far are covered
abbrev pub invariant-commands : goal.invariant-commands
invariant-commands l = (l.passed-end ≡ length l.commands) × Covers l.commands (length l.commands - l.passed) l.devices l.lasts × CoversUses l.commands (length l.commands - l.passed) l.first_reads l.written
