-- A window of a record: its line, its runs, their order, the answers, the home.
use Rattle.day_clock.specs.declared.times.When.{When}
use Rattle.home_types.specs.declared.commands.Answer.{Answer}
use Rattle.home_types.specs.declared.worlds.Stand.{Stand}
use Rattle.order_checker.specs.Answers.{home_behind}
use Rattle.order_checker.specs.Heads.{is_window_line}
use Rattle.order_checker.specs.HomeLines.{home_agrees}
use Rattle.order_checker.specs.Lines.{line_at}
use Rattle.order_checker.specs.OrderLines.{order_told}
use Rattle.order_checker.specs.RunLines.{run_told}
use Rattle.order_checker.specs.Steps.{required, walk, ◌>>=◌}
use Rattle.order_checker.specs.declared.verdicts.Place.TheVariants.{Window}
use Rattle.order_checker.specs.declared.verdicts.Place.{Place}
use Rattle.routine_reader.specs.Rosters.{kinds_of, routine_commands, run_of_text}
use Rattle.routine_reader.specs.declared.scripts.RunText.{RunText}
use Rattle.routine_reader.specs.declared.scripts.Script.{Script}
use Rattle.routine_reader.specs.declared.scripts.WindowText.{WindowText}
use Rattle.std.specs.List.{count_by}
use Rattle.std.specs.Prelude.{List, Ok, Option, Result, [], drop, is_some, length, map, option_map, slice_get, unwrap_or, ℕ, ◌+◌, ◌++◌, ◌∷◌}

-- what was read so far: how many windows, where the devices stand, the lines that are left, and how
-- many runs, and committed ones
pub record DayProgress : Type 0 where
  pub windows : ℕ
  pub home : List Stand
  pub lines : List (Option (List ℕ))
  pub runs : ℕ
  pub committed : ℕ

-- the name of a routine
abbrev pub named_routine : Script → ℕ → List ℕ
named_routine script i =
    unwrap_or (option_map (λ routine. routine.name) (slice_get script.routines.items i)) []

-- how the runs so far ended, and the lines that are left
pub record RunsTold : Type 0 where
  pub ends : List (Option (List Answer))
  pub lines : List (Option (List ℕ))

-- how the run with this number ended, of a window with so many, by the next of these lines
abbrev pub run_text_told : Script → ℕ → ℕ → RunText → List (Option (List ℕ))
    → Result (Option (List Answer)) Place
run_text_told script runs r run lines =
    run_told script.devices.items runs r (named_routine script run.routine)
    (routine_commands script run.routine) (line_at lines 0)

-- how the next run ended, by the next line
abbrev pub next_run_told : Script → ℕ → RunsTold → RunText → Result RunsTold Place
next_run_told script runs earlier run = do
  told ← run_text_told script runs (length earlier.ends + 1) run earlier.lines
  Ok (record { ends = earlier.ends ++ told ∷ []; lines = drop 1 earlier.lines })

-- the lines behind the first line of the window with this number, from 1, at this time
abbrev pub window_line_told : ℕ → When → List (Option (List ℕ))
    → Result (List (Option (List ℕ))) Place
window_line_told k at lines = do
  first ← required (is_window_line k at (line_at lines 0)) Window
  Ok (drop 1 lines)

-- where the devices stand behind the order, by the next line
unfoldable pub order_end_told : Script → List Stand → WindowText → RunsTold
    → Result (List Stand) Place
order_end_told script home window told =
    let runs = map (run_of_text script) window.runs.items in do
      items ← order_told
          (record { devices = script.devices.items; home = home; runs = runs; ends = told.ends })
          (line_at told.lines 0)
      home_behind runs (kinds_of script) told.ends home items

-- the lines of a window, from what was read before it
unfoldable pub window_told : Script → DayProgress → WindowText → Result DayProgress Place
window_told script before window = do
  lines ← window_line_told (before.windows + 1) window.at before.lines
  told ← walk (next_run_told script (length window.runs.items))
      (record { ends = []; lines = lines }) window.runs.items
  home ← order_end_told script before.home window told
  agrees ← home_agrees script.devices.items home (line_at (drop 1 told.lines) 0)
  Ok (record {
    windows = before.windows + 1;
    home = home;
    lines = drop 1 (drop 1 told.lines);
    runs = before.runs + length window.runs.items;
    committed = before.committed + count_by is_some told.ends;
  })
