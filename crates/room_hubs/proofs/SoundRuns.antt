-- The runs of a window of a sound script have their commands on devices of the home, and where the window is split none crosses rooms.
use Rattle.room_hubs.proofs.Prelude.{All, All-get_or, Command, DeviceText, Err, IfSome, IsParted, IsSound, IsSoundCommand, IsSoundRoutine, IsSoundRun, IsSoundWindow, List, None, Ok, Option, PlainRooms, Room, RoutineText, Run, RunNo, Script, Some, WindowText, [], all_rooms, ap, arith, bytes_eq, commands_of, cross_at, crosses, device_kinds, fold, followed_by, get_or, get_or_from_slice_get, kind_at, kinds_of, length, length-append, length-map, map, most_commands, no_rooms, option_and_then, option_map, plain_device, plain_routine, plain_script, plain_window, position, position_or_len, refl, room_name, rooms_of, routine_commands, run_of_text, script_runs, script_split, slice_get, slice_get-get_or, slice_get-map, slice_get_within, subst, suc, suits_device, sym, true, unwrap_or, window_split, with_device, zero, ℕ, ◌+◌, ◌<◌, ◌∙◌, ◌∷◌, ◌≡◌, ◌≤◌}
use Rattle.routine_reader.specs.declared.scripts.RunText.{RunText}
use Rattle.std.specs.Option.{option_map_or}

same_kinds : (devices : List DeviceText) → device_kinds (map plain_device devices) ≡ map (λ d. d.kind) devices
same_kinds [] = refl
same_kinds (d ∷ devices) = ap (λ ks. d.kind ∷ ks) (same_kinds devices)

module _ (script : Script) (sound : IsSound (plain_script script)) where
  -- few commands, each on a device of the home, with values of its kind
  pub record AreSound (commands : List Command) : Type 0 where
    pub few : length commands ≤ most_commands
    pub each : (i : ℕ) (c : Command) → slice_get commands i ≡ Some c → (c.device.0 < length script.devices.items) × (suits_device (kind_at (kinds_of script) c.device.0) c.job ≡ true)

  none_sound : AreSound []
  none_sound = record { few = omega arith; each = λ i c at. absurd (cc) }

  routine_sound : (i : ℕ) → AreSound (routine_commands script i)
  routine_sound i = by (slice_get script.routines.items i) refl
    where
      by : (o : Option RoutineText) → slice_get script.routines.items i ≡ o → AreSound (unwrap_or (option_map (λ t. t.routine.commands.items) o) [])
      by None at = none_sound
      by (Some text) at =
          let all = map plain_routine script.routines.items in
          let there : slice_get all i ≡ Some (plain_routine text) = slice_get-map plain_routine script.routines.items i ∙ ap (option_map plain_routine) at in
          let P = IsSoundRoutine (map plain_device script.devices.items) in
          let routine = subst P (get_or_from_slice_get all i (plain_routine text) (plain_routine text) there)
          (All-get_or P all i (plain_routine text) (slice_get_within all i (plain_routine text) there) sound.routines) in
          let commands = text.routine.commands.items in
          record {
            few = routine.few_commands;
            each = λ j c at_c.
                let is = subst (IsSoundCommand (map plain_device script.devices.items)) (get_or_from_slice_get commands j c c at_c) (routine.commands j c (slice_get_within commands j c at_c)) in
                let low = is.device in
                (omega (arith, low, length-map script.devices.items plain_device), ap (λ ks. suits_device (kind_at ks c.device.0) c.job) (sym (same_kinds script.devices.items)) ∙ is.value);
          }

  run_sound : (o : Option Run) → ((run : Run) → o ≡ Some run → AreSound run.commands) → AreSound (unwrap_or (option_map (λ run. run.commands) o) [])
  run_sound None each = none_sound
  run_sound (Some run) each = each run refl

  text_sound : (texts : List RunText) (i : ℕ) (run : Run) → slice_get (map (run_of_text script) texts) i ≡ Some run → AreSound run.commands
  text_sound texts i run at = by (slice_get texts i) (sym (slice_get-map (run_of_text script) texts i) ∙ at)
    where
      by : (o : Option RunText) → option_map (run_of_text script) o ≡ Some run → AreSound run.commands
      by None is = absurd (cc)
      by (Some text) is = let same : run_of_text script text ≡ run = cc in subst (λ (x : Run). AreSound x.commands) same (routine_sound text.routine)

  runs_sound : (texts : List RunText) (r : ℕ) → AreSound (commands_of (map (run_of_text script) texts) r)
  runs_sound texts zero = none_sound
  runs_sound texts (suc i) = run_sound (slice_get (map (run_of_text script) texts) i) (text_sound texts i)

  pub commands_sound : (k r : ℕ) → AreSound (commands_of (script_runs script k) r)
  commands_sound k r = by (slice_get script.windows.items k) r
    where
      empty : (r : ℕ) → AreSound (commands_of [] r)
      empty zero = none_sound
      empty (suc i) = none_sound

      by : (o : Option WindowText) (r : ℕ) → AreSound (commands_of (unwrap_or (option_map (λ t. map (run_of_text script) t.runs.items) o) []) r)
      by None r = empty r
      by (Some window) r = runs_sound window.runs.items r

  pub commands_inside : (k r : ℕ) → All (λ c. c.device.0 < length script.devices.items) (commands_of (script_runs script k) r)
  commands_inside k r i d within = ((commands_sound k r).each i (get_or (commands_of (script_runs script k) r) i d) (slice_get-get_or (commands_of (script_runs script k) r) i d within)).0

  -- a run follows an earlier one
  texts_follow : (texts : List RunText) → ((i : ℕ) (text : RunText) → slice_get texts i ≡ Some text → IsSoundRun (length (map plain_routine script.routines.items)) i text)
      → (r : ℕ) (g : RunNo) → followed_by (map (run_of_text script) texts) r ≡ Some g → (1 ≤ g.0) × (g.0 < r)
  texts_follow texts each zero g is = absurd (cc)
  texts_follow texts each (suc i) g is = by (slice_get texts i) refl (ap (option_and_then (λ (run : Run). run.follows)) (sym (slice_get-map (run_of_text script) texts i)) ∙ is)
    where
      by : (o : Option RunText) → slice_get texts i ≡ o → option_and_then (λ (run : Run). run.follows) (option_map (run_of_text script) o) ≡ Some g → (1 ≤ g.0) × (g.0 < suc i)
      by None at none = absurd (cc)
      by (Some text) at follows =
          let earlier = subst (λ o. IfSome o (λ (x : RunNo). (1 ≤ x.0) × (x.0 ≤ i))) follows (each i text at).follows in
          (earlier.0, omega (arith, earlier.1))

  pub follows_sound : (k r : ℕ) (g : RunNo) → followed_by (script_runs script k) r ≡ Some g → (1 ≤ g.0) × (g.0 < r)
  follows_sound k r g is = by (slice_get script.windows.items k) refl is
    where
      empty : (r : ℕ) → followed_by [] r ≡ Some g → (1 ≤ g.0) × (g.0 < r)
      empty zero none = absurd (cc)
      empty (suc i) none = absurd (cc)

      by : (o : Option WindowText) → slice_get script.windows.items k ≡ o → followed_by (unwrap_or (option_map (λ t. map (run_of_text script) t.runs.items) o) []) r ≡ Some g → (1 ≤ g.0) × (g.0 < r)
      by None at none = empty r none
      by (Some window) at follows =
          let all = map plain_window script.windows.items in
          let there : slice_get all k ≡ Some (plain_window window) = slice_get-map plain_window script.windows.items k ∙ ap (option_map plain_window) at in
          let P = IsSoundWindow (length (map plain_routine script.routines.items)) in
          let is_sound = subst P (get_or_from_slice_get all k (plain_window window) (plain_window window) there)
          (All-get_or P all k (plain_window window) (slice_get_within all k (plain_window window) there) sound.windows) in
          texts_follow window.runs.items is_sound.runs r g follows

-- each device has a room
rooms_more : (rooms : PlainRooms) (names : List (List ℕ)) → length (fold with_device rooms names).room_of ≡ length rooms.room_of + length names
rooms_more rooms [] = omega arith
rooms_more rooms (name ∷ names) = let more = rooms_more (with_device rooms name) names in let one = length-append rooms.room_of (position_or_len (bytes_eq name) rooms.names ∷ []) in omega (arith, more, one)

-- the home has as many devices as have rooms
pub rooms_size : (script : Script) → length (rooms_of script).room_of ≡ length script.devices.items
rooms_size script =
    let names = map (λ (device : DeviceText). device.name) script.devices.items in
    let more = rooms_more no_rooms (map room_name names) in
    omega (arith, more, length-map names room_name, length-map script.devices.items (λ (device : DeviceText). device.name))

-- a window that is split has no run that crosses, and its rooms are all rooms
pub split_is : (rooms : PlainRooms) (runs : List Run) (all : List Room) → window_split rooms runs ≡ Ok all → (position (crosses rooms.room_of runs) runs ≡ None) × (all ≡ all_rooms rooms runs)
split_is rooms runs all is = by (position (crosses rooms.room_of runs) runs) refl is
  where
    by : (o : Option ℕ) → position (crosses rooms.room_of runs) runs ≡ o
        → option_map_or (λ fault. Err fault) (option_map (cross_at rooms.room_of runs) o) (Ok (all_rooms rooms runs)) ≡ Ok all
        → (position (crosses rooms.room_of runs) runs ≡ None) × (all ≡ all_rooms rooms runs)
    by None none found = (none, (cc))
    by (Some place) some found = absurd (cc)

-- where a window of the script is split, its rooms part the home
pub split_parts : (script : Script) (window : ℕ) (all : List Room) → IsSound (plain_script script) → script_split script window ≡ Ok all → IsParted (rooms_of script).room_of (script_runs script window)
split_parts script window all sound is = record {
  devices = λ r k d within. let low = commands_inside script sound window r k d within in omega (arith, low, rooms_size script);
  none = (split_is (rooms_of script) (script_runs script window) all is).0;
}
