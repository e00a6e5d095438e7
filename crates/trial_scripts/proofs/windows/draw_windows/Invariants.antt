use Rattle.trial_scripts.proofs.Prelude.{draw_each, draw_window, map, plain_window, ◌≡◌}
use Rattle.trial_scripts.proofs.windows.draw_windows.Given as goal

-- the windows so far
abbrev pub invariant-windows : goal.invariant-windows
invariant-windows l = record { made = map plain_window l.windows.items; state = l.draws } ≡ draw_each draw_window l.number l.initial.draws
