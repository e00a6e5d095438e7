use Rattle.command_rules.proofs.LastSums.{sum_or}
use Rattle.command_rules.proofs.footprints.sum_to_last.Given as goal
use Rattle.command_rules.proofs.Prelude.{drop, estimate_to_last, ◌*◌, ◌≡◌, ◌≤◌}

abbrev pub invariant-commands : goal.invariant-commands
invariant-commands l =
    (sum_or l.d.0 (drop l.command-index l.commands) l.sum l.to_last ≡ estimate_to_last l.d.0 l.commands) × (l.sum ≤ 4294967295 * l.command-index)
