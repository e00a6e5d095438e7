-- The runs of a script's last window, and one run more.
use Rattle.live_scripts.proofs.Prelude.{HasRun, IfSome, List, Listed, None, Option, RunNo, RunText, Script, Some, WindowText, [], ap, arith, first_against_run, length, length-append, length-map, map, map-append, new_run, option_map, slice_get, subst, sym, unwrap_or, ℕ, ◌++◌, ◌+◌, ◌-◌, ◌<◌, ◌∙◌, ◌∷◌, ◌≡◌, ◌≤◌}
use Rattle.live_scripts.proofs.GrowthSound.{earlier_is}
use Rattle.live_scripts.proofs.Refusing.{few_and_earlier, free_in, get_last, known_routine}
use Rattle.routine_reader.specs.Rosters.{kinds_of, run_of_text, script_runs}
use Rattle.routine_reader.specs.declared.scripts.DeviceText.{DeviceText}
use Rattle.routine_reader.specs.declared.scripts.RoutineText.{RoutineText}

-- the window that is the last one has this number
last_number : (windows front : List WindowText) (window : WindowText) (k : ℕ) → windows ≡ front ++ window ∷ [] → length windows ≡ k + 1 → slice_get windows k ≡ Some window
last_number windows front window k is size =
    let all : length windows ≡ length front + 1 = ap (λ l. length l) is ∙ length-append front (window ∷ []) in
    let at : k ≡ length front = omega (arith, all, size) in
    ap (λ i. slice_get windows i) at ∙ ap (λ l. slice_get l (length front)) is ∙ get_last front window

runs_at : (script : Script) (k : ℕ) (window : WindowText) → slice_get script.windows.items k ≡ Some window → script_runs script k ≡ map (run_of_text script) window.runs.items
runs_at script k window at = ap (λ o. unwrap_or (option_map (λ (t : WindowText). map (run_of_text script) t.runs.items) o) []) at

-- it has as many windows as before
pub windows_grown : (script grown : Script) (routine : ℕ) (follows : Option RunNo) (r : ℕ) → HasRun script routine follows r grown → length grown.windows.items ≡ length script.windows.items
windows_grown script grown routine follows r added =
    let a = length-append added.earlier (added.is ∷ []) in let b = length-append added.earlier (added.was ∷ []) in
    let m = ap (λ l. length l) added.last_is in let n = ap (λ l. length l) added.last_was in omega (arith, a, b, m, n)

-- the script's last window, and the same one with the run
pub runs_grown : (script grown : Script) (routine : ℕ) (follows : Option RunNo) (r k : ℕ) → HasRun script routine follows r grown → length script.windows.items ≡ k + 1
    → script_runs grown k ≡ script_runs script k ++ run_of_text script (new_run routine follows) ∷ []
runs_grown script grown routine follows r k added size =
    let new : RunText = new_run routine follows in
    let sizes : length grown.windows.items ≡ k + 1 = windows_grown script grown routine follows r added ∙ size in
    runs_at grown k added.is (last_number grown.windows.items added.earlier added.is k added.last_is sizes)
    ∙ ap (λ l. map (run_of_text grown) l) added.runs
    ∙ map-append (run_of_text grown) added.was.runs.items (new ∷ [])
    ∙ ap (λ (routines : Listed RoutineText). map (run_of_text (record grown { routines = routines })) added.was.runs.items ++ run_of_text (record grown { routines = routines }) new ∷ []) added.routines
    ∙ ap (λ l. l ++ run_of_text script new ∷ []) (sym (runs_at script k added.was (last_number script.windows.items added.earlier added.was k added.last_was size)))

-- the run has the number behind the last one
pub number_grown : (script grown : Script) (routine : ℕ) (follows : Option RunNo) (r k : ℕ) → HasRun script routine follows r grown → length script.windows.items ≡ k + 1
    → r ≡ length (script_runs script k) + 1
number_grown script grown routine follows r k added size =
    let runs = ap (λ l. length l) (runs_at script k added.was (last_number script.windows.items added.earlier added.was k added.last_was size)) in
    let texts = length-map added.was.runs.items (run_of_text script) in
    omega (arith, added.number, runs, texts)

pub kinds_grown : (script grown : Script) (routine : ℕ) (follows : Option RunNo) (r : ℕ) → HasRun script routine follows r grown → kinds_of grown ≡ kinds_of script
kinds_grown script grown routine follows r added = ap (λ (devices : Listed DeviceText). map (λ (d : DeviceText). d.kind) devices.items) added.devices

-- what is so of a run that the script's last window, the one of this number, may have
pub record MayTake (script : Script) (k routine : ℕ) (follows : Option RunNo) : Type 0 where
  pub routine_there : routine < length script.routines.items
  pub few : length (script_runs script k) < 64
  pub earlier : IfSome follows (λ followed. (1 ≤ followed.0) × (followed.0 ≤ length (script_runs script k)))

pub may_take : (script : Script) (k routine : ℕ) (follows : Option RunNo) → length script.windows.items ≡ k + 1 → first_against_run script routine follows ≡ None → MayTake script k routine follows
may_take script k routine follows size free =
    let window = free_in script routine follows free in
    let at : length script.windows.items - 1 ≡ k = omega (arith, size) in
    let runs = ap (λ l. length l) (runs_at script k window.0 (sym (ap (λ i. slice_get script.windows.items i) at) ∙ window.1)) ∙ length-map window.0.runs.items (run_of_text script) in
    let may = few_and_earlier window.0 follows window.2 in
    record {
      routine_there = known_routine script routine follows free;
      few = omega (arith, runs, may.0);
      earlier = subst (λ n. IfSome follows (λ followed. (1 ≤ followed.0) × (followed.0 ≤ n))) (sym runs) (earlier_is follows (length window.0.runs.items) may.1);
    }
