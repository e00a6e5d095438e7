-- How many rooms, devices and runs there are.
use Rattle.room_hubs.proofs.Prelude.{All, Bool, DeviceNo, IsSound, IsSoundWindow, List, Option, PlainRooms, RosterRun, Run, RunNo, Script, Some, WindowText, [], ap, arith, bytes_eq, commands_of, device_room, devices_in, fold, get_or, get_or-map, inl, inr, length, length-append, length-map, map, most_devices, most_runs, no_rooms, numbers_of_devices, numbers_of_runs, option_and_then, option_map, plain_device, plain_routine, plain_run, plain_script, plain_window, position_or_len, room_name, rooms_of, run_of_text, run_room, run_with, runs_in, script_runs, slice_get, slice_get-get_or, slice_get_cases, subst, suc, sym, unwrap_or, with_device, zero, ℕ, ◌+◌, ◌-◌, ◌<◌, ◌==◌, ◌∙◌, ◌∷◌, ◌≡◌, ◌≤◌}
use Rattle.room_hubs.proofs.Names.{names_few}
use Rattle.room_hubs.proofs.Parts.{Filtered, filtered}
use Rattle.routine_reader.proofs.Cited.{runs-there}

sizes_from : (start : PlainRooms) (rooms : List (List ℕ))
    → (length (fold with_device start rooms).names ≤ length start.names + length rooms) × (length (fold with_device start rooms).room_of ≡ length start.room_of + length rooms)
sizes_from start [] = (omega arith, omega arith)
sizes_from start (room ∷ rooms) =
    let more = sizes_from (with_device start room) rooms in
    let last = position_or_len (bytes_eq room) start.names ∷ [] in
    let names = more.0 in
    let devices = more.1 in
    (omega (arith, names, names_few start.names room), omega (arith, devices, length-append start.room_of last))

-- a home has no more rooms than devices, and each device has a room
pub rooms_few : (script : Script) → IsSound (plain_script script)
    → (length (rooms_of script).names ≤ most_devices) × (length (rooms_of script).room_of ≤ most_devices)
rooms_few script sound =
    let devices = map (λ device. device.name) script.devices.items in
    let sizes = sizes_from no_rooms (map room_name devices) in
    let many : length (map room_name devices) ≡ length script.devices.items = length-map devices room_name ∙ length-map script.devices.items (λ device. device.name) in
    let few : length script.devices.items ≤ most_devices = omega (arith, sound.few_devices, length-map script.devices.items plain_device) in
    let names = sizes.0 in
    let numbers = sizes.1 in
    (omega (arith, names, many, few), omega (arith, numbers, many, few))

-- a window has few runs
window_few : (script : Script) (k : ℕ) (window : WindowText) → IsSound (plain_script script) → k < length script.windows.items
    → slice_get script.windows.items k ≡ Some window → get_or script.windows.items k window ≡ window → length window.runs.items ≤ most_runs
window_few script k window sound within at is =
    let windows = script.windows.items in
    let P = IsSoundWindow (length (map plain_routine script.routines.items)) in
    let here = sound.windows k (plain_window window) (omega (arith, within, length-map windows plain_window)) in
    (subst P (get_or-map plain_window windows k window (plain_window window) within ∙ ap plain_window is) here).few_runs

pub runs_few : (script : Script) (k : ℕ) → IsSound (plain_script script) → k < length script.windows.items → length (script_runs script k) ≤ most_runs
runs_few script k sound within = elim (slice_get_cases script.windows.items k).1 [
  | inl p ↦ let few = window_few script k p.0 sound within p.2 p.3 in
      let same = ap length (runs-there script k p.0 p.2) in
      omega (arith, few, same, length-map p.0.runs.items (run_of_text script))
  | inr p ↦ absurd (let past = p.0 in omega (arith, within, past))
]

-- a room has no more devices than the home
pub room_devices_few : (room_of : List ℕ) (k : ℕ) (devices : List DeviceNo) → numbers_of_devices devices ≡ devices_in room_of k → length devices ≤ length room_of
room_devices_few room_of k devices is =
    omega (arith, (filtered (λ d. device_room room_of d == k) 0 (length room_of)).few, ap length is, length-map devices (λ d. d.0))

-- nor more runs, and each is one of the window
module _ (room_of : List ℕ) (roster : List RosterRun) (k : ℕ) (mine : List RunNo) (is : numbers_of_runs mine ≡ runs_in room_of (map plain_run roster) k) where
  its_own : ℕ → Bool
  its_own r = run_room room_of (commands_of (map plain_run roster) r) == k

  its_runs : Filtered its_own 1 (length (map plain_run roster)) (numbers_of_runs mine)
  unfolding its_own
  its_runs = subst (Filtered its_own 1 (length (map plain_run roster))) (sym is) (filtered its_own 1 (length (map plain_run roster)))

  pub room_runs_few : length mine ≤ length roster
  room_runs_few = omega (arith, its_runs.few, length-map mine (λ r. r.0), length-map roster plain_run)

  pub room_runs_there : All (λ r. (1 ≤ r.0) × (r.0 ≤ length roster)) mine
  room_runs_there i d within =
      let g = its_runs.each i (omega (arith, within, length-map mine (λ r. r.0))) in
      let at : get_or (numbers_of_runs mine) i 0 ≡ (get_or mine i d).0 = get_or-map (λ r. r.0) mine i d 0 within in
      let low = g.1 in
      let high = g.2 in
      (omega (arith, low, at), omega (arith, high, at, length-map roster plain_run))

-- a run that is there
pub run_there : (runs : List RosterRun) (r : ℕ) (d : RosterRun) → 1 ≤ r → r ≤ length runs → run_with (map plain_run runs) r ≡ plain_run (get_or runs (r - 1) d)
run_there runs zero d low high = absurd (omega (arith, low))
run_there runs (suc i) d low high =
    let place : suc i - 1 ≡ i = omega arith in
    let at : slice_get (map plain_run runs) i ≡ Some (plain_run (get_or runs i d)) =
    slice_get-get_or (map plain_run runs) i (plain_run d) (omega (arith, high, length-map runs plain_run))
    ∙ ap (λ (x : Run). Some x) (get_or-map plain_run runs i d (plain_run d) (omega (arith, high))) in
    ap (λ (o : Option Run). record { commands = unwrap_or (option_map (λ run. run.commands) o) []; follows = option_and_then (λ run. run.follows) o }) at
    ∙ ap (λ n. plain_run (get_or runs n d)) (sym place)
