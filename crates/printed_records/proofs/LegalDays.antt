-- The windows of a legal day fit, and its record agrees.
use Rattle.printed_records.proofs.Prelude.{Agrees, Bool, CausesAreSmall, DayFits, Eventual, Global, HaveValues, IsLegalWindow, IsSeriallyLegal, IsSound, IsSoundWindow, Kind, List, Mode, Partitioned, Run, Scheduler, Script, Some, Stand, TimesAreSmall, Visibility, Weak, WindowFits, WindowRecord, WindowText, [], ap, arith, at_place, day_text, has_order, home_before, kinds_of, length, length-map, map, option_map, plain_routine, plain_script, plain_window, prints_order, refl, run_of_text, script_runs, slice_get, slice_get_within, subst, subst₂, suc, sym, true, unwrap_or, verdict_of, window_sound, zero, ℕ, ◌∙◌, ◌≡◌, ◌≤◌}
use Rattle.legal_days.specs.LegalDays.{RecordsAreLegal, state_after}
use Rattle.printed_records.proofs.DayTexts.{day-agrees}
use Rattle.printed_records.proofs.EndCounts.{all-ended, ends-committed}
use Rattle.printed_records.proofs.LegalFits.{all_fit, items_fit, run_fits, serial_fits, values_fit, window_setting}
use Rattle.printed_records.proofs.ValuesKept.{start-values}

-- a window that fits, out of a legal one
pub window_fits : (script : Script) (mode : Mode) (home : List Stand) (window : WindowText) (closed : WindowRecord)
    → IsSound (plain_script script) → IsSoundWindow (length (map plain_routine script.routines.items)) (plain_window window)
    → IsSeriallyLegal (window_setting script mode home window) closed → HaveValues (kinds_of script) home → CausesAreSmall closed.history.items → WindowFits script home window closed
window_fits script mode home window closed sound well legal before small =
    let w = window_setting script mode home window in
    let count = length-map window.runs.items (run_of_text script) in
    record {
      runs = run_fits script mode home window closed legal before small;
      items = items_fit script mode home window closed legal before;
      all = all_fit script mode home window closed legal before;
      serial = serial_fits script mode home window closed legal before;
      values = values_fit script mode home window closed legal before sound well;
      committed = ends-committed w window closed.history.items legal.well_formed count;
      ended = sym count ∙ all-ended w closed.history.items legal.well_formed legal.ended;
    }

-- under a mode that prints an order, a legal window is serially legal
serial_of : (runs : List Run) (model : Visibility) (scheduler : Scheduler) (kinds : List Kind) (first : List Stand) (closed : WindowRecord) → has_order model scheduler ≡ true
    → IsLegalWindow (record { runs = runs; mode = record { model = model; scheduler = scheduler }; kinds = kinds; first = first }) closed
    → IsSeriallyLegal (record { runs = runs; mode = record { model = model; scheduler = scheduler }; kinds = kinds; first = first }) closed
serial_of runs Weak scheduler kinds first closed has legal = absurd (cc)
serial_of runs Global scheduler kinds first closed has legal = legal
serial_of runs Partitioned scheduler kinds first closed has legal = legal
serial_of runs Eventual scheduler kinds first closed has legal = legal

same_home : (script : Script) (records : List WindowRecord) (k : ℕ) → state_after script records k ≡ home_before script records k
same_home script records zero = refl
same_home script records (suc k) = refl

module _ (script : Script) (mode : Mode) (records : List WindowRecord) (sound : IsSound (plain_script script)) (has : prints_order mode ≡ true)
    (legal : RecordsAreLegal script mode records) (all : length records ≡ length script.windows.items) where
  serial : (k : ℕ) (window : WindowText) (closed : WindowRecord) → slice_get script.windows.items k ≡ Some window → slice_get records k ≡ Some closed
      → IsSeriallyLegal (window_setting script mode (home_before script records k) window) closed
  serial k window closed at record_at =
      let runs : script_runs script k ≡ map (run_of_text script) window.runs.items =
      ap (λ o. unwrap_or (option_map (λ (t : WindowText). map (run_of_text script) t.runs.items) o) []) at in
      serial_of (map (run_of_text script) window.runs.items) mode.model mode.scheduler (kinds_of script) (home_before script records k) closed has
      (subst₂ (λ (rs : List Run) (first : List Stand). IsLegalWindow (record { runs = rs; mode = mode; kinds = kinds_of script; first = first }) closed) runs (same_home script records k) (legal k closed record_at))

  -- before each window each device has a value of its kind
  values_before : (k : ℕ) → k ≤ length records → HaveValues (kinds_of script) (home_before script records k)
  values_before zero within = start-values script sound
  values_before (suc k) within =
      let closed = at_place records k (omega (arith, within)) in
      let window = at_place script.windows.items k (omega (arith, within, all)) in
      let here = values_before k (omega (arith, within)) in
      let left = values_fit script mode (home_before script records k) window.0 closed.0 (serial k window.0 closed.0 window.1 closed.1) here sound (window_sound script k window.0 sound window.1) in
      subst (HaveValues (kinds_of script)) (ap (λ o. unwrap_or (option_map (λ (c : WindowRecord). c.last.devices.items) o) []) (sym closed.1)) left

  -- the windows of a legal day fit
  pub day_fits : TimesAreSmall records → DayFits script records
  day_fits small k window closed at record_at =
      window_fits script mode (home_before script records k) window closed sound (window_sound script k window sound at) (serial k window closed at record_at)
      (values_before k (let within = slice_get_within records k closed record_at in omega (arith, within))) (small k closed record_at)

  -- the record of a legal day agrees
  pub legal_agrees : (trace : Bool) → TimesAreSmall records → verdict_of script (day_text script records mode trace) ≡ Agrees
  legal_agrees trace small = day-agrees script mode trace records sound has (day_fits small) all
