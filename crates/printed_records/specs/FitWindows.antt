-- A closed window that its printed lines agree with: each run has ended as its line may tell, the
-- order is one of its runs, and the serial execution of the order answers and leaves what is
-- printed.
use Rattle.day_report.specs.Days.{is_abort, is_commit}
use Rattle.history_book.specs.declared.records.WindowRecord.{WindowRecord}
use Rattle.home_types.specs.Kinds.{has_value}
use Rattle.home_types.specs.Numbers.{RunId}
use Rattle.home_types.specs.declared.kinds.Kind.{Kind}
use Rattle.home_types.specs.declared.worlds.Stand.{Stand}
use Rattle.order_checker.specs.Answers.{home_behind}
use Rattle.order_checker.specs.OrderLines.{OrderSetting}
use Rattle.printed_records.specs.Ends.{ends_told}
use Rattle.printed_records.specs.Fits.{AllStand, ItemsMayStand, RunFits, plain_item}
use Rattle.routine_reader.specs.Rosters.{kinds_of, run_of_text, start_home}
use Rattle.routine_reader.specs.declared.scripts.Script.{Script}
use Rattle.routine_reader.specs.declared.scripts.WindowText.{WindowText}
use Rattle.std.specs.List.{count_by}
use Rattle.std.specs.Prelude.{List, Ok, Some, [], is_some, length, map, option_map, slice_get, suc, true, unwrap_or, zero, ℕ, ⊤, ◌+◌, ◌≡◌, ◌≤◌, ◌∷◌}

-- what an order of the window is judged by
abbrev pub order_setting : Script → List Stand → WindowText → WindowRecord → OrderSetting
order_setting script home window closed =
    record {
      devices = script.devices.items;
      home = home;
      runs = map (run_of_text script) window.runs.items;
      ends = ends_told window closed.history.items;
    }

-- as many devices as kinds, each with a value of its kind
abbrev pub HaveValues : List Kind → List Stand → Type 0
HaveValues [] [] = ⊤
HaveValues [] (stand ∷ home) = ⊥
HaveValues (kind ∷ kinds) [] = ⊥
HaveValues (kind ∷ kinds) (stand ∷ home) =
    (has_value kind stand.value ≡ true) × HaveValues kinds home

-- the window that begins with this home fits
pub record WindowFits (script : Script) (home : List Stand) (window : WindowText)
    (closed : WindowRecord) : Type 0 where
  pub runs : (r : RunId) → 1 ≤ r → r ≤ length window.runs.items → RunFits (kinds_of script)
      (map (run_of_text script) window.runs.items) r closed.history.items
  pub items : ItemsMayStand (order_setting script home window closed) [] closed.order.items
  pub all : AllStand (map plain_item closed.order.items) 0 (ends_told window closed.history.items)
  pub serial : home_behind (map (run_of_text script) window.runs.items) (kinds_of script)
      (ends_told window closed.history.items) home (map plain_item closed.order.items)
      ≡ Ok closed.last.devices.items
  pub values : HaveValues (kinds_of script) closed.last.devices.items
  pub committed : count_by is_some (ends_told window closed.history.items)
      ≡ count_by (λ kept. is_commit kept.entry) closed.history.items
  pub ended : length window.runs.items ≡ count_by (λ kept. is_commit kept.entry)
      closed.history.items + count_by (λ kept. is_abort kept.entry) closed.history.items

-- the home before the window of this number, from 0
abbrev pub home_before : Script → List WindowRecord → ℕ → List Stand
home_before script records zero = start_home script
home_before script records (suc k) =
    unwrap_or (option_map (λ closed. closed.last.devices.items) (slice_get records k)) []

-- each window fits
abbrev pub DayFits : Script → List WindowRecord → Type 0
DayFits script records =
    (k : ℕ) (window : WindowText) (closed : WindowRecord) → slice_get script.windows.items k
    ≡ Some window → slice_get records k ≡ Some closed
    → WindowFits script (home_before script records k) window closed
