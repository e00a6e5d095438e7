-- The windows of a trial, as they are drawn.
use Rattle.day_clock.specs.declared.times.When.{When}
use Rattle.routine_reader.specs.Scripts.{PlainWindow}
use Rattle.routine_reader.specs.declared.scripts.RunText.{RunText}
use Rattle.seeded_draws.specs.Draws.{below, drawn}
use Rattle.std.specs.Prelude.{List, None, [], ℕ, ◌%◌, ◌*◌, ◌+◌, ◌/◌}
use Rattle.trial_scripts.specs.Drawings.{Drawing, draw_each}
use Rattle.trial_scripts.specs.TrialRoutines.{routine_count}

-- a run that follows none
unfoldable pub draw_run : ℕ → Drawing RunText
draw_run state = record {
  made = record { routine = below (drawn state) routine_count; follows = None };
  state = drawn state;
}

-- each window is five minutes later, from 2021-04-26 00:00 on
abbrev pub trial_time : ℕ → When
trial_time number =
    record {
      year = 2021;
      month = 4;
      day = 26;
      hour = 5 * number / 60;
      minute = 5 * number % 60;
      second = 0;
    }

-- the window with this number, counted from 0: 64 runs, no probes and no turns; its seed counts
-- from 1
unfoldable pub draw_window : ℕ → ℕ → Drawing PlainWindow
draw_window number state =
    let runs = draw_each (λ _. draw_run) 64 state in
    record {
      made = record {
        at = trial_time number;
        seed = number + 1;
        probes = 0;
        turns = [];
        runs = runs.made;
      };
      state = runs.state;
    }

-- so many windows
unfoldable pub draw_windows : ℕ → ℕ → Drawing (List PlainWindow)
draw_windows n state = draw_each draw_window n state
