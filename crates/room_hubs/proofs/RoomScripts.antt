-- The script of a room says of its windows, kinds and start what the room has of those of the home.
use Rattle.room_hubs.proofs.Prelude.{All, Bool, DeviceText, List, None, Option, RoutineText, Run, Script, Some, WindowText, [], ap, arith, commands_of, device_room, devices_at, devices_in, filter, get_or, get_or-map, get_or_default, kinds_of, length, length-map, map, no_device_text, no_run_text, nowhere, option_and_then, option_map, own_command, own_routine, own_run, own_run_no, own_run_text, own_runs, own_script, own_window, range_with_len, refl, room_at, room_home, room_kinds, rooms_of, routine_commands, run_of_text, run_room, run_with, runs_in, script_runs, slice_get, slice_get-get_or, slice_get-map, slice_index_or, start_home, start_stand, subst, suc, sym, unwrap_or, zero, ℕ, ◌+◌, ◌<◌, ◌==◌, ◌∙◌, ◌∷◌, ◌≡◌, ◌≤◌}
use Rattle.room_hubs.proofs.Loops.{map_map}
use Rattle.room_hubs.proofs.Parts.{filtered}
use Rattle.home_types.specs.declared.kinds.Kind.TheVariants.{States}
use Rattle.room_hubs.proofs.SoundRuns.{rooms_size}
use Rattle.routine_reader.specs.declared.scripts.RunText.{RunText}

-- maps that agree at each item
pub map_same : {X Y : Type 0} (f g : X → Y) (xs : List X) → All (λ x. f x ≡ g x) xs → map f xs ≡ map g xs
map_same f g [] all = refl
map_same f g (x ∷ xs) all = λ i. all 0 x (omega arith) i ∷ map_same f g xs (λ k d within. all (suc k) d (omega (arith, within))) i

-- each of the numbers that pass is in the range
pub all_filtered : (p : ℕ → Bool) (a n : ℕ) → All (λ r. (a ≤ r) × (r < a + n)) (filter p (range_with_len a n))
all_filtered p a n i d within =
    let e = (filtered p a n).each i within in
    subst (λ r. (a ≤ r) × (r < a + n)) (get_or_default (filter p (range_with_len a n)) i 0 d within) (e.1, e.2)

module _ (script : Script) (k : ℕ) where
  abbrev Devices : List ℕ
  Devices = devices_in (rooms_of script).room_of k

  routine_is : (i : ℕ) → routine_commands (own_script script k) i ≡ map (own_command Devices) (routine_commands script i)
  routine_is i = ap (λ o. unwrap_or (option_map (λ (t : RoutineText). t.routine.commands.items) o) []) (slice_get-map (own_routine Devices) script.routines.items i) ∙ by (slice_get script.routines.items i)
    where
      by : (o : Option RoutineText)
          → unwrap_or (option_map (λ (t : RoutineText). t.routine.commands.items) (option_map (own_routine Devices) o)) [] ≡ map (own_command Devices) (unwrap_or (option_map (λ (t : RoutineText). t.routine.commands.items) o) [])
      by None = refl
      by (Some text) = refl

  run_is : (mine : List ℕ) (texts : List RunText) (r : ℕ) → 1 ≤ r → r < 1 + length texts
      → run_of_text (own_script script k) (own_run_text mine texts r) ≡ own_run Devices mine (run_with (map (run_of_text script) texts) r)
  run_is mine texts zero low high = absurd (omega (arith, low))
  run_is mine texts (suc i) low high =
      let text = get_or texts i no_run_text in
      let at : slice_get (map (run_of_text script) texts) i ≡ Some (run_of_text script text) =
      slice_get-map (run_of_text script) texts i ∙ ap (option_map (run_of_text script)) (slice_get-get_or texts i no_run_text (omega (arith, high))) in
      let commands = routine_is text.routine ∙ ap (λ (o : Option Run). map (own_command Devices) (unwrap_or (option_map (λ run. run.commands) o) [])) (sym at) in
      let follows = ap (λ (o : Option Run). option_map (own_run_no mine) (option_and_then (λ run. run.follows) o)) (sym at) in
      λ j. record { commands = commands j; follows = follows j }

  runs_are : (texts : List RunText) (mine : List ℕ) → All (λ r. (1 ≤ r) × (r < 1 + length texts)) mine
      → map (run_of_text (own_script script k)) (map (own_run_text mine texts) mine) ≡ own_runs Devices mine (map (run_of_text script) texts)
  runs_are texts mine each = map_map (run_of_text (own_script script k)) (own_run_text mine texts) mine
      ∙ map_same (λ r. run_of_text (own_script script k) (own_run_text mine texts r)) (λ r. own_run Devices mine (run_with (map (run_of_text script) texts) r)) mine
      (λ i d within. let e = each i d within in run_is mine texts (get_or mine i d) e.0 e.1)

  -- the runs of a window are those that the room has of it
  pub own_runs_are : (w : ℕ) → script_runs (own_script script k) w ≡ (room_at (rooms_of script).room_of (script_runs script w) k).own_runs
  own_runs_are w = ap (λ o. unwrap_or (option_map (λ (t : WindowText). map (run_of_text (own_script script k)) t.runs.items) o) []) (slice_get-map (own_window script k) script.windows.items w) ∙ by (slice_get script.windows.items w)
    where
      by : (o : Option WindowText)
          → unwrap_or (option_map (λ (t : WindowText). map (run_of_text (own_script script k)) t.runs.items) (option_map (own_window script k) o)) []
          ≡ (room_at (rooms_of script).room_of (unwrap_or (option_map (λ (t : WindowText). map (run_of_text script) t.runs.items) o) []) k).own_runs
      by None = refl
      by (Some window) =
          let runs = map (run_of_text script) window.runs.items in
          let p : ℕ → Bool = λ r. run_room (rooms_of script).room_of (commands_of runs r) == k in
          let mine = runs_in (rooms_of script).room_of runs k in
          runs_are window.runs.items mine (subst (λ n. All (λ r. (1 ≤ r) × (r < 1 + n)) mine) (length-map window.runs.items (run_of_text script)) (all_filtered p 1 (length runs)))

  -- a device of the room is one of the home
  pub device_there : (i : ℕ) → i < length Devices → get_or Devices i 0 < length script.devices.items
  device_there i within = let f = (filtered (λ d. device_room (rooms_of script).room_of d == k) 0 (length (rooms_of script).room_of)).each i within in omega (arith, f.2, rooms_size script)

  -- what is seen of each of the room's devices is seen of the home's
  pub seen_devices : {X : Type 0} (f : DeviceText → X) (x : X) → map f (devices_at script.devices.items Devices) ≡ map (λ d. slice_index_or (map f script.devices.items) d x) Devices
  seen_devices f x = map_map f (λ d. slice_index_or script.devices.items d no_device_text) Devices
      ∙ map_same (λ d. f (slice_index_or script.devices.items d no_device_text)) (λ d. slice_index_or (map f script.devices.items) d x) Devices
      (λ i d within. sym (get_or-map f script.devices.items (get_or Devices i d) no_device_text x
      (subst (λ n. n < length script.devices.items) (get_or_default Devices i 0 d within) (device_there i within))))

  pub own_kinds_are : (w : ℕ) → kinds_of (own_script script k) ≡ room_kinds (room_at (rooms_of script).room_of (script_runs script w) k) (kinds_of script)
  own_kinds_are w = seen_devices (λ d. d.kind) (States 0)

  pub own_start_is : (w : ℕ) → start_home (own_script script k) ≡ room_home (room_at (rooms_of script).room_of (script_runs script w) k) (start_home script)
  own_start_is w = seen_devices start_stand nowhere
