-- The lines of a window, read again.
use Rattle.printed_records.proofs.Prelude.{Answer, Bool, DayProgress, Device, DeviceText, HaveValues, IsSound, IsSoundDevice, IsSoundWindow, Kept, List, Mode, Ok, Option, Place, Result, RunFits, RunText, RunsTold, Script, Some, Stand, Weak, Window, WindowFits, WindowRecord, WindowText, [], ap, append-nil, append_assoc, ap₂, arith, at_place, count_by, drop, end_of, ends_told, enumerate_from, eq-eqb, false, flat_map, home_agrees, home_behind, home_line, home_told, if◌then◌else◌, is_some, kinds_of, length, length-append, length-map, line_at, line_of_run, lines_of, map, named_routine, next_device_told, next_run_told, not, option_map_or, order_end_told, order_line, order_setting, order_told, plain_device, plain_routine, plain_script, plain_window, refl, required, routine_commands, run_at, run_lines, run_of_text, run_told, slice_get, slice_get_within, stands_so, suc, sym, told_end, trace_lines, true, walk, window_line, window_line_told, window_lines, window_told, ℕ, ◌&&◌, ◌++◌, ◌+◌, ◌<◌, ◌>>=◌, ◌^◌, ◌∙◌, ◌∷◌, ◌≡◌, ◌≢◌, ◌≤◌}
use Rattle.printed_records.proofs.HomeTexts.{StandWell, home-printed}
use Rattle.printed_records.proofs.Names.{sound-device}
use Rattle.printed_records.proofs.OrderTexts.{order-printed}
use Rattle.printed_records.proofs.RunTexts.{run-printed}
use Rattle.printed_records.proofs.Runs.{IsRunOf}
use Rattle.printed_records.proofs.Times.{window-line}
use Rattle.printed_records.proofs.Traces.{trace-passed}

-- ---- the home

stand-self : (stand : Stand) → stands_so stand stand ≡ true
stand-self stand = ap₂ (λ a b. a && b) (eq-eqb stand.value _ refl) (ups stand.up)
  where
    ups : (up : Bool) → (if up then up else not up) ≡ true
    ups true = refl
    ups false = refl

get-after : (front : List Stand) (stand : Stand) (rest : List Stand) → slice_get (front ++ stand ∷ rest) (length front) ≡ Some stand
get-after [] stand rest = refl
get-after (s ∷ front) stand rest = get-after front stand rest

-- each device stands as it is told by itself
agrees-from : (front rest : List Stand) (d : ℕ) → d ≡ length front → walk (next_device_told (front ++ rest)) d rest ≡ Ok (d + length rest)
unfolding walk
agrees-from front [] d number = ap Ok (omega arith)
agrees-from front (stand ∷ rest) d number =
    let all = front ++ stand ∷ rest in
    let at : slice_get all d ≡ Some stand = ap (slice_get all) number ∙ get-after front stand rest in
    let count : d + 1 + length rest ≡ d + length (stand ∷ rest) = omega arith in
    ap (λ o. required (option_map_or (λ t. stands_so t stand) o false) (Device (record { 0 = d })) >>= (λ so. Ok (d + 1)) >>= (λ next. walk (next_device_told all) next rest)) at
    ∙ ap (λ b. required b (Device (record { 0 = d })) >>= (λ so. Ok (d + 1)) >>= (λ next. walk (next_device_told all) next rest)) (stand-self stand)
    ∙ ap (λ h. walk (next_device_told h) (d + 1) rest) (sym (append_assoc front (stand ∷ []) rest))
    ∙ agrees-from (front ++ stand ∷ []) rest (d + 1) (omega (arith, number, length-append front (stand ∷ [])))
    ∙ ap Ok count

pub home-agrees : (devices : List DeviceText) (home : List Stand) (line : Option (List ℕ)) → home_told devices line ≡ Ok home → home_agrees devices home line ≡ Ok (length home)
unfolding home_agrees
home-agrees devices home line told = ap (λ o. o >>= (λ t. walk (next_device_told t) 0 home)) told ∙ agrees-from [] home 0 refl ∙ ap Ok (omega arith)

stand-well : (devices : List DeviceText) (home : List Stand) → ((d : ℕ) (device : DeviceText) → slice_get devices d ≡ Some device → IsSoundDevice (plain_device device))
    → HaveValues (map (λ (x : DeviceText). x.kind) devices) home → StandWell devices home
stand-well [] [] sound values = tt
stand-well [] (stand ∷ home) sound values = absurd values
stand-well (device ∷ devices) [] sound values = absurd values
stand-well (device ∷ devices) (stand ∷ home) sound values =
    (sound 0 device refl, values.0, stand-well devices home (λ d other at. sound (suc d) other at) values.1)

-- ---- the runs

get-run : (front : List RunText) (run : RunText) (rest : List RunText) → slice_get (front ++ run ∷ rest) (length front) ≡ Some run
get-run [] run rest = refl
get-run (f ∷ front) run rest = get-run front run rest

module _ (script : Script) (window : WindowText) (history : List Kept) (sound : IsSound (plain_script script)) (well : IsSoundWindow (length (map plain_routine script.routines.items)) (plain_window window))
    (fits : (r : ℕ) → 1 ≤ r → r ≤ length window.runs.items → RunFits (kinds_of script) (map (run_of_text script) window.runs.items) r history) where
  runs-from : (front runs : List RunText) (k : ℕ) (ends : List (Option (List Answer))) (rest : List ℕ) → front ++ runs ≡ window.runs.items → k ≡ length front + 1 → length ends ≡ length front
      → walk (next_run_told script (length window.runs.items))
      (record { ends = ends; lines = lines_of (flat_map (λ (r, run). line_of_run script window history r run.routine) (enumerate_from k runs) ++ rest) }) runs
      ≡ Ok (record { ends = ends ++ map (λ (r, run). told_end r history (end_of history r)) (enumerate_from k runs); lines = lines_of rest })
  unfolding walk
  runs-from front [] k ends rest all number told = ap (λ e. Ok (record { ends = e; lines = lines_of rest })) (sym (append-nil ends))
  runs-from front (run ∷ runs) k ends rest all number told =
      let n = length window.runs.items in
      let next : k ≡ suc (length front) = omega (arith, number) in
      let at : slice_get window.runs.items (length front) ≡ Some run = ap (λ rs. slice_get rs (length front)) (sym all) ∙ get-run front run runs in
      let within : length front < n = slice_get_within window.runs.items (length front) run at in
      let routine = at_place script.routines.items run.routine (omega (arith, (well.runs (length front) run at).routine, length-map script.routines.items plain_routine)) in
      let is : IsRunOf script window k run routine.0 = record { at = ap (run_at window) next ∙ at; routine_is = routine.1 } in
      let few : n < 2 ^ 64 = omega (arith, well.few_runs) in
      let small : k < 2 ^ 64 = omega (arith, number, few, within) in
      let printed = run-printed script window k run routine.0 sound is history small few (fits k (omega (arith, number)) (omega (arith, number, within))) in
      let more = flat_map (λ (r, run). line_of_run script window history r run.routine) (enumerate_from (k + 1) runs) in
      let lines : lines_of ((line_of_run script window history k run.routine ++ more) ++ rest) ≡ Some printed.0 ∷ lines_of (more ++ rest) =
      ap lines_of (append_assoc (line_of_run script window history k run.routine) more rest) ∙ printed.1.lines (more ++ rest) in
      let end = told_end k history (end_of history k) in
      let number_is : length ends + 1 ≡ k = omega (arith, number, told) in
      let step : (ls : List (Option (List ℕ))) → Result RunsTold Place =
      λ ls. run_told script.devices.items n (length ends + 1) (named_routine script run.routine) (routine_commands script run.routine) (line_at ls 0)
      >>= (λ t. Ok (record { ends = ends ++ t ∷ []; lines = drop 1 ls })) in
      let one : step (lines_of ((line_of_run script window history k run.routine ++ more) ++ rest)) ≡ Ok (record { ends = ends ++ end ∷ []; lines = lines_of (more ++ rest) }) =
      ap step lines
      ∙ ap (λ m. run_told script.devices.items n m (named_routine script run.routine) (routine_commands script run.routine) (Some printed.0) >>= (λ t. Ok (record { ends = ends ++ t ∷ []; lines = lines_of (more ++ rest) }))) number_is
      ∙ ap (λ o. o >>= (λ t. Ok (record { ends = ends ++ t ∷ []; lines = lines_of (more ++ rest) }))) printed.1.told in
      ap (λ o. o >>= (λ next. walk (next_run_told script n) next runs)) one
      ∙ runs-from (front ++ run ∷ []) runs (k + 1) (ends ++ end ∷ []) rest (append_assoc front (run ∷ []) runs ∙ all) (omega (arith, number, length-append front (run ∷ []))) (omega (arith, told, length-append front (run ∷ []), length-append ends (end ∷ [])))
      ∙ ap (λ e. Ok (record { ends = e; lines = lines_of rest })) (append_assoc ends (end ∷ []) (map (λ (r, run). told_end r history (end_of history r)) (enumerate_from (k + 1) runs)))

  -- the lines of all the runs tell their ends
  pub runs-printed : (rest : List ℕ)
      → walk (next_run_told script (length window.runs.items)) (record { ends = []; lines = lines_of (run_lines script window history ++ rest) }) window.runs.items
      ≡ Ok (record { ends = ends_told window history; lines = lines_of rest })
  unfolding run_lines ends_told
  runs-printed rest = runs-from [] window.runs.items 1 [] rest refl refl refl

-- ---- the window

length-numbered : {X : Type 0} (k : ℕ) (xs : List X) → length (enumerate_from k xs) ≡ length xs
length-numbered k [] = refl
length-numbered k (x ∷ xs) = omega (arith, length-numbered (k + 1) xs)

length-ends : (window : WindowText) (history : List Kept) → length (ends_told window history) ≡ length window.runs.items
unfolding ends_told
length-ends window history =
    length-map (enumerate_from 1 window.runs.items) (λ (r, run). told_end r history (end_of history r)) ∙ length-numbered 1 window.runs.items

-- what is left to do behind each part of a window with this number, that begins with this home
abbrev behind_home : Script → ℕ → ℕ → ℕ → WindowText → RunsTold → List Stand → Result DayProgress Place
behind_home script k runs committed window told home =
    home_agrees script.devices.items home (line_at (drop 1 told.lines) 0)
    >>= (λ agrees. Ok (record { windows = k + 1; home = home; lines = drop 1 (drop 1 told.lines); runs = runs + length window.runs.items; committed = committed + count_by is_some told.ends }))

abbrev behind_runs : Script → ℕ → List Stand → ℕ → ℕ → WindowText → RunsTold → Result DayProgress Place
behind_runs script k home runs committed window told =
    order_told (record { devices = script.devices.items; home = home; runs = map (run_of_text script) window.runs.items; ends = told.ends }) (line_at told.lines 0)
    >>= (λ items. home_behind (map (run_of_text script) window.runs.items) (kinds_of script) told.ends home items)
    >>= (λ last. behind_home script k runs committed window told last)

abbrev behind_line : Script → ℕ → List Stand → ℕ → ℕ → WindowText → List (Option (List ℕ)) → Result DayProgress Place
behind_line script k home runs committed window lines =
    walk (next_run_told script (length window.runs.items)) (record { ends = []; lines = lines }) window.runs.items
    >>= (λ told. behind_runs script k home runs committed window told)

trace-lines : (script : Script) (window : WindowText) (trace : Bool) (history : List Kept) (rest : List ℕ) → IsSound (plain_script script)
    → lines_of ((if trace then trace_lines script window history else []) ++ rest) ≡ lines_of rest
trace-lines script window true history rest sound = trace-passed script window sound history rest
trace-lines script window false history rest sound = refl

parts-apart : (a b c d e rest : List ℕ) → (a ++ b ++ c ++ d ++ e) ++ rest ≡ a ++ (b ++ (c ++ (d ++ (e ++ rest))))
parts-apart a b c d e rest = simp append_assoc

-- the lines of a window that fits are read to their end
pub window-printed : (script : Script) (k : ℕ) (window : WindowText) (closed : WindowRecord) (mode : Mode) (trace : Bool) (home : List Stand) (runs committed : ℕ) (rest : List ℕ)
    → IsSound (plain_script script) → IsSoundWindow (length (map plain_routine script.routines.items)) (plain_window window) → mode.model ≢ Weak → k + 1 < 2 ^ 64
    → WindowFits script home window closed
    → window_told script (record { windows = k; home = home; lines = lines_of (window_lines script k window closed mode trace ++ rest); runs = runs; committed = committed }) window
    ≡ Ok (record {
      windows = k + 1;
      home = closed.last.devices.items;
      lines = lines_of rest;
      runs = runs + length window.runs.items;
      committed = committed + count_by is_some (ends_told window closed.history.items);
    })
unfolding window_told window_lines order_end_told
window-printed script k window closed mode trace home runs committed rest sound well strong small fits =
    let history = closed.history.items in
    let last = closed.last.devices.items in
    let ends = ends_told window history in
    let setting = order_setting script home window closed in
    let few : length ends < 2 ^ 64 = omega (arith, well.few_runs, length-ends window history) in
    let first = window-line k window.at well.at small in
    let order = order-printed script sound mode.model setting closed.order.items strong refl few fits.items fits.all in
    let standing = stand-well script.devices.items last (λ d device at. sound-device script d device sound at) fits.values in
    let line = home-printed script.devices.items last standing in
    let behind_order = home_line script.devices.items last ++ rest in
    let behind_run_lines = order_line script mode.model closed.order.items ++ behind_order in
    let behind_first = run_lines script window history ++ behind_run_lines in
    let traced = if trace then trace_lines script window history else [] in
    let lines : lines_of (window_lines script k window closed mode trace ++ rest) ≡ Some first.0 ∷ lines_of behind_first =
    ap lines_of (parts-apart (window_line k window.at) traced (run_lines script window history) (order_line script mode.model closed.order.items) (home_line script.devices.items last) rest)
    ∙ first.1.lines (traced ++ behind_first)
    ∙ ap (λ ls. Some first.0 ∷ ls) (trace-lines script window trace history behind_first sound) in
    let last_lines : lines_of behind_run_lines ≡ Some order.0 ∷ Some line.0 ∷ lines_of rest =
    order.1.lines behind_order ∙ ap (λ ls. Some order.0 ∷ ls) (line.1.lines rest) in
    let told : RunsTold = record { ends = ends; lines = Some order.0 ∷ Some line.0 ∷ lines_of rest } in
    ap (λ ls. window_line_told (k + 1) window.at ls >>= (λ l. behind_line script k home runs committed window l)) lines
    ∙ ap (λ b. required b Window >>= (λ is. Ok (lines_of behind_first)) >>= (λ l. behind_line script k home runs committed window l)) first.1.is
    ∙ ap (λ o. o >>= (λ t. behind_runs script k home runs committed window t)) (runs-printed script window history sound well fits.runs behind_run_lines)
    ∙ ap (λ ls. behind_runs script k home runs committed window (record { ends = ends; lines = ls })) last_lines
    ∙ ap (λ o. o >>= (λ items. home_behind (map (run_of_text script) window.runs.items) (kinds_of script) ends home items) >>= (λ h. behind_home script k runs committed window told h)) order.1.told
    ∙ ap (λ o. o >>= (λ h. behind_home script k runs committed window told h)) fits.serial
    ∙ ap (λ o. o >>= (λ agrees. Ok (record { windows = k + 1; home = last; lines = lines_of rest; runs = runs + length window.runs.items; committed = committed + count_by is_some ends })))
    (home-agrees script.devices.items last (Some line.0) line.1.told)
