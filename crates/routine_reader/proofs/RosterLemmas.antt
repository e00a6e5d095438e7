-- The runs of a window of a sound script, and its devices.
use Rattle.routine_reader.proofs.Prelude.{All, All-get_or, IsSound, IsSoundWindow, Kind, List, RunText, Some, [], ap, arith, get_or, get_or_from_slice_get, kinds_of, length, length-map, map, map-append, option_map, plain_device, plain_routine, plain_script, plain_window, run_of_text, script_runs, slice_get, slice_get-get_or, slice_get-map, slice_get_within, subst, sym, take, take_all, take_more, unwrap_or, ℕ, ◌++◌, ◌+◌, ◌<◌, ◌∙◌, ◌∷◌, ◌≡◌, ◌≤◌}
use Rattle.routine_reader.specs.declared.scripts.Script.{Script}
use Rattle.routine_reader.specs.declared.scripts.WindowText.{WindowText}

-- one more run
pub runs-more : (script : Script) (texts : List RunText) (i : ℕ) (d : RunText) → i < length texts
    → map (run_of_text script) (take i texts) ++ run_of_text script (get_or texts i d) ∷ [] ≡ map (run_of_text script) (take (i + 1) texts)
runs-more script texts i d within =
    sym (map-append (run_of_text script) (take i texts) (get_or texts i d ∷ []))
    ∙ ap (map (run_of_text script)) (sym (take_more texts i d within))

pub runs-all : (script : Script) (texts : List RunText) (i : ℕ) → length texts ≤ i
    → map (run_of_text script) (take i texts) ≡ map (run_of_text script) texts
runs-all script texts i all = ap (map (run_of_text script)) (take_all i texts all)

-- the routines of the runs are there
pub routines-there : (script : Script) (k : ℕ) (window : WindowText) → IsSound (plain_script script) → slice_get script.windows.items k ≡ Some window
    → All (λ run. run.routine < length script.routines.items) window.runs.items
routines-there script k window sound at i d within =
    let there = slice_get-map plain_window script.windows.items k ∙ ap (option_map plain_window) at in
    let inside : k < length (map plain_window script.windows.items) = slice_get_within (map plain_window script.windows.items) k (plain_window window) there in
    let P = IsSoundWindow (length (map plain_routine script.routines.items)) in
    let sound_window = subst P (get_or_from_slice_get (map plain_window script.windows.items) k (plain_window window) (plain_window window) there)
    (All-get_or P (map plain_window script.windows.items) k (plain_window window) inside sound.windows) in
    let run = get_or window.runs.items i d in
    let placed : run.routine < length (map plain_routine script.routines.items) = (sound_window.runs i run (slice_get-get_or window.runs.items i d within)).routine in
    subst (λ n. run.routine < n) (length-map script.routines.items plain_routine) placed

-- the runs of a window that is there
pub runs-there : (script : Script) (k : ℕ) (window : WindowText) → slice_get script.windows.items k ≡ Some window
    → map (run_of_text script) window.runs.items ≡ script_runs script k
runs-there script k window at =
    sym (ap (λ o. unwrap_or (option_map (λ (t : WindowText). map (run_of_text script) t.runs.items) o) []) at)

-- the window at a number that is there
pub window-there : (script : Script) (k : ℕ) (seen : List WindowText) (window : WindowText) → k < length script.windows.items
    → seen ≡ script.windows.items → window ≡ get_or seen k window → slice_get script.windows.items k ≡ Some window
window-there script k seen window within same is =
    slice_get-get_or script.windows.items k window within
    ∙ ap (λ ws. Some (get_or ws k window)) (sym same) ∙ ap (λ (w : WindowText). Some w) (sym is)

-- a script that is sound has few devices
pub few_kinds : (script : Script) (kinds : List Kind) → IsSound (plain_script script) → kinds ≡ kinds_of script → length kinds ≤ 256
few_kinds script kinds sound is =
    let texts = script.devices.items in
    let said = sound.few_devices in
    let same : length (map plain_device texts) ≡ length texts = length-map texts plain_device in
    let made : length kinds ≡ length texts = ap (λ l. length l) is ∙ length-map texts (λ t. t.kind) in
    omega (arith, said, same, made)
