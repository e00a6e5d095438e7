use Rattle.trial_scripts.proofs.Prelude.{draw_command, draw_each, ◌≡◌}
use Rattle.trial_scripts.proofs.routines.draw_commands.Given as goal

-- the commands so far
abbrev pub invariant-commands : goal.invariant-commands
invariant-commands l = record { made = l.commands.items; state = l.draws } ≡ draw_each (λ _. draw_command) l.counter l.initial.draws
