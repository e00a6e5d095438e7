use Rattle.trial_scripts.proofs.Prelude.{draw_each, draw_routine, map, plain_routine, ◌≡◌}
use Rattle.trial_scripts.proofs.routines.draw_routines.Given as goal

-- the routines so far
abbrev pub invariant-routines : goal.invariant-routines
invariant-routines l = record { made = map plain_routine l.routines.items; state = l.draws } ≡ draw_each draw_routine l.number l.initial.draws
