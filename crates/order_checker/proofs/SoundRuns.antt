-- The runs of a window of a sound script.
use Rattle.order_checker.proofs.Prelude.{All, Command, IsReader, List, None, Option, Script, Some, [], ap, arith, commands_of, get_or, get_or_from_slice_get, length, length-map, map, option_map, refl, runs_of, slice_get, slice_get-map, slice_get_within, subst, suc, sym, unwrap_or, zero, ℕ, ◌<◌, ◌∙◌, ◌∷◌, ◌≡◌, ◌≤◌}
use Rattle.command_rules.specs.declared.rosters.Roster.{Roster}
use Rattle.home_types.specs.Limits.{most_commands, most_windows}
use Rattle.order_checker.specs.declared.order_lines.OrderReader.{OrderReader}
use Rattle.routine_reader.proofs.Cited.{runs-there}
use Rattle.routine_reader.specs.Rosters.{routine_commands, run_of_text, script_runs}
use Rattle.routine_reader.specs.Scripts.{plain_device, plain_routine, plain_script, plain_window}
use Rattle.routine_reader.specs.Sound.{IsSound, IsSoundRoutine, IsSoundWindow}
use Rattle.routine_reader.specs.declared.scripts.RoutineText.{RoutineText}
use Rattle.routine_reader.specs.declared.scripts.RunText.{RunText}
use Rattle.routine_reader.specs.declared.scripts.WindowText.{WindowText}
use Rattle.std.proofs.lemmas.List.Elements.{All-get_or}

pub seen_at : {X Y : Type 0} (view : X → Y) (P : Y → Type 0) (xs : List X) (k : ℕ) (x : X) → All P (map view xs) → slice_get xs k ≡ Some x → P (view x)
seen_at view P xs k x all at =
    let there = slice_get-map view xs k ∙ ap (option_map view) at in
    subst P (get_or_from_slice_get (map view xs) k (view x) (view x) there) (All-get_or P (map view xs) k (view x) (slice_get_within (map view xs) k (view x) there) all)

pub window_sound : (script : Script) (k : ℕ) (window : WindowText) → IsSound (plain_script script) → slice_get script.windows.items k ≡ Some window
    → IsSoundWindow (length (map plain_routine script.routines.items)) (plain_window window)
window_sound script k window sound at = seen_at plain_window (IsSoundWindow (length (map plain_routine script.routines.items))) script.windows.items k window sound.windows at

pub window-few : (script : Script) (k : ℕ) (window : WindowText) → IsSound (plain_script script) → slice_get script.windows.items k ≡ Some window → k < most_windows
window-few script k window sound at =
    let within = slice_get_within script.windows.items k window at in
    let all = length-map script.windows.items plain_window in
    omega (arith, within, all, sound.few_windows)

-- few commands, each on a device of the script
record Fit (script : Script) (commands : List Command) : Type 0 where
  few : length commands ≤ most_commands
  on : All (λ c. c.device.0 < length script.devices.items) commands

none_fit : (script : Script) → Fit script []
none_fit script = record { few = omega arith; on = λ k d within. absurd (let no_place : ⊥ = omega (arith, within) in no_place) }

routine_fits : (script : Script) (i : ℕ) → IsSound (plain_script script) → Fit script (routine_commands script i)
routine_fits script i sound = by_text (slice_get script.routines.items i) refl
  where
    by_text : (o : Option RoutineText) → slice_get script.routines.items i ≡ o → Fit script (unwrap_or (option_map (λ t. t.routine.commands.items) o) [])
    by_text None at = none_fit script
    by_text (Some text) at =
        let routine = seen_at plain_routine (IsSoundRoutine (map plain_device script.devices.items)) script.routines.items i text sound.routines at in
        record {
          few = routine.few_commands;
          on = λ k d within. subst (λ n. (get_or text.routine.commands.items k d).device.0 < n) (length-map script.devices.items plain_device) (routine.commands k d within).device;
        }

run_fits : (script : Script) (texts : List RunText) (r : ℕ) → IsSound (plain_script script) → Fit script (commands_of (map (run_of_text script) texts) r)
run_fits script texts zero sound = none_fit script
run_fits script [] (suc i) sound = none_fit script
run_fits script (text ∷ texts) (suc zero) sound = routine_fits script text.routine sound
run_fits script (text ∷ texts) (suc (suc i)) sound = run_fits script texts (suc i) sound

pub runs-are : (script : Script) (k : ℕ) (window : WindowText) (roster : Roster) → slice_get script.windows.items k ≡ Some window → runs_of roster ≡ script_runs script k → runs_of roster ≡ map (run_of_text script) window.runs.items
runs-are script k window roster at is = is ∙ sym (runs-there script k window at)

-- what the order of a window is judged by
pub reader-stands : (script : Script) (k : ℕ) (window : WindowText) (reader : OrderReader) → IsSound (plain_script script) → slice_get script.windows.items k ≡ Some window
    → reader.devices.now ≡ script.devices.items → length reader.home.now.items ≡ length script.devices.items → runs_of reader.roster.now ≡ script_runs script k
    → length reader.ends.now ≡ length window.runs.items → IsReader reader
reader-stands script k window reader sound at devices home roster ends =
    let runs = runs-are script k window reader.roster.now at roster in
    let size = ap length devices in
    let all = length-map script.devices.items plain_device in
    record {
      ends = ends ∙ sym (sym (length-map reader.roster.now.runs.items _) ∙ ap length runs ∙ length-map window.runs.items (run_of_text script));
      few_runs = omega (arith, ends, (window_sound script k window sound at).few_runs);
      home = home ∙ sym size;
      few_devices = omega (arith, size, all, sound.few_devices);
      few_commands = λ r. subst (λ runs. length (commands_of runs r) ≤ most_commands) (sym runs) (run_fits script window.runs.items r sound).few;
      commands = λ r. subst (λ runs. All (λ c. c.device.0 < length reader.devices.now) (commands_of runs r)) (sym runs)
          (subst (λ n. All (λ c. c.device.0 < n) (commands_of (map (run_of_text script) window.runs.items) r)) (sym size) (run_fits script window.runs.items r sound).on);
    }
