-- A script that is read is one that the format allows, where the times of its windows are times.
use Rattle.routine_reader.proofs.Prelude.{All, All-map, All-nil, AreInOrder, DayMembers, Err, IfOk, IsCivilTime, IsReading, IsSound, IsSoundDevice, IsSoundRoutine, IsSoundWindow, List, Ok, PlainDevice, PlainRoutine, PlainScript, PlainWindow, ReadFault, Result, Some, [], ap, arith, device_names, false, is_among, is_later, last_time, length, length-map, most_devices, most_routines, most_windows, next_device_read, next_routine, next_window_read, none-some, option_map, parts_reading, plain_script, plain_window, read_each, routine_names, slice_get, subst, suc, take, true, zero, ℕ, ◌+◌, ◌-◌, ◌∙◌, ◌∷◌, ◌≡◌, ◌≤◌}
use Rattle.routine_reader.proofs.DeviceSound.{device-sound}
use Rattle.routine_reader.proofs.PrefixLemmas.{EachAfter, different-names, each-none, length-before}
use Rattle.routine_reader.proofs.RoutineSound.{routine-sound}
use Rattle.routine_reader.proofs.WalkSound.{each-after, each-all, each-length, ok-same, ok-then}
use Rattle.routine_reader.proofs.WindowSound.{window-sound}
use Rattle.routine_reader.specs.declared.scripts.Script.{Script}

last-taken : (windows : List PlainWindow) (k : ℕ) (window : PlainWindow) → slice_get windows k ≡ Some window
    → slice_get (take (suc k) windows) k ≡ Some window
last-taken [] k window h = absurd (none-some window h)
last-taken (w ∷ ws) zero window h = h
last-taken (w ∷ ws) (suc k) window h = last-taken ws k window h

one-more : (k : ℕ) → suc k ≡ k + 1
one-more k = omega arith

-- the last of the windows before the next one
last-before : (windows : List PlainWindow) (k : ℕ) (a b : PlainWindow) → slice_get windows k ≡ Some a → slice_get windows (k + 1) ≡ Some b
    → last_time (take (k + 1) windows) ≡ Some a.at
last-before windows k a b here next =
    let count = length-before windows (k + 1) b next in
    let at_k : length (take (k + 1) windows) - 1 ≡ k = omega (arith, count) in
    ap (λ n. option_map (λ (w : PlainWindow). w.at) (slice_get (take (k + 1) windows) n)) at_k
    ∙ ap (option_map (λ (w : PlainWindow). w.at))
    (subst (λ n. slice_get (take n windows) k ≡ Some a) (one-more k) (last-taken windows k a here))

in-order : (windows : List PlainWindow) → EachAfter (λ earlier window. is_later (last_time earlier) window.at ≡ true) windows → AreInOrder windows
in-order windows each k a b here next =
    subst (λ before. is_later before b.at ≡ true) (last-before windows k a b here next) (each (k + 1) b next)

civil-windows : (n : ℕ) (windows : List PlainWindow) → All (λ window. IsCivilTime window.at → IsSoundWindow n window) windows
    → All (λ window. IsCivilTime window.at) windows → All (IsSoundWindow n) windows
civil-windows n windows sound civil k d within = sound k d within (civil k d within)

parts-sound : (members : DayMembers) (script : PlainScript) → length members.devices ≤ most_devices → length members.routines ≤ most_routines → length members.windows ≤ most_windows
    → parts_reading members ≡ Ok script → All (λ window. IsCivilTime window.at) script.windows → IsSound script
unfolding parts_reading
parts-sound members script few_devices few_routines few_windows h =
    let devices = ok-then (read_each next_device_read [] members.devices) _ script h in
    let next = next_routine members.version devices.0 in
    let routines = ok-then (read_each next [] members.routines) _ script devices.2 in
    let names = routine_names routines.0 in
    let windows = ok-then (read_each (next_window_read names) [] members.windows) _ script routines.2 in
    let all_devices = each-all IsSoundDevice next_device_read (λ earlier value device e. (device-sound (length earlier + 1) (device_names earlier) value device e).0) [] members.devices devices.0 (All-nil IsSoundDevice) devices.1 in
    let D : List PlainDevice → PlainDevice → Type 0 = λ earlier device. is_among (device_names earlier) device.name ≡ false in
    let new_devices = each-after D next_device_read (λ earlier value device e. (device-sound (length earlier + 1) (device_names earlier) value device e).1) [] members.devices devices.0 (each-none D) devices.1 in
    let all_routines = each-all (IsSoundRoutine devices.0) next (λ earlier value routine e. (routine-sound members.version devices.0 all_devices (length earlier + 1) (routine_names earlier) value routine e).0) [] members.routines routines.0 (All-nil (IsSoundRoutine devices.0)) routines.1 in
    let R : List PlainRoutine → PlainRoutine → Type 0 = λ earlier routine. is_among (routine_names earlier) routine.name ≡ false in
    let new_routines = each-after R next (λ earlier value routine e. (routine-sound members.version devices.0 all_devices (length earlier + 1) (routine_names earlier) value routine e).1) [] members.routines routines.0 (each-none R) routines.1 in
    let S : PlainWindow → Type 0 = λ window. IsCivilTime window.at → IsSoundWindow (length names) window in
    let all_windows = each-all S (next_window_read names) (λ earlier value window e. (window-sound names (length earlier + 1) (last_time earlier) value window e).0) [] members.windows windows.0 (All-nil S) windows.1 in
    let W : List PlainWindow → PlainWindow → Type 0 = λ earlier window. is_later (last_time earlier) window.at ≡ true in
    let later = each-after W (next_window_read names) (λ earlier value window e. (window-sound names (length earlier + 1) (last_time earlier) value window e).1) [] members.windows windows.0 (each-none W) windows.1 in
    let made : PlainScript = record { devices = devices.0; routines = routines.0; windows = windows.0 } in
    let count_devices = each-length next_device_read [] members.devices devices.0 devices.1 in
    let count_routines = each-length next [] members.routines routines.0 routines.1 in
    let count_windows = each-length (next_window_read names) [] members.windows windows.0 windows.1 in
    subst (λ (s : PlainScript). All (λ window. IsCivilTime window.at) s.windows → IsSound s) {x = made} (ok-same made script windows.2)
    (λ civil. record {
      few_devices = omega (arith, count_devices, few_devices);
      devices = all_devices;
      device_names = different-names (λ (d : PlainDevice). d.name) devices.0 new_devices;
      few_routines = omega (arith, count_routines, few_routines);
      routines = all_routines;
      routine_names = different-names (λ (r : PlainRoutine). r.name) routines.0 new_routines;
      few_windows = omega (arith, count_windows, few_windows);
      windows = subst (λ n. All (IsSoundWindow n) windows.0) (length-map routines.0 (λ (r : PlainRoutine). r.name)) (civil-windows (length names) windows.0 all_windows civil);
      in_order = in-order windows.0 later;
    })

-- the answer of a reader of the parts
pub answer-sound : (answer : Result Script ReadFault) (members : DayMembers)
    → length members.devices ≤ most_devices → length members.routines ≤ most_routines → length members.windows ≤ most_windows
    → IsReading plain_script answer (parts_reading members) → IfOk answer (λ script. All (λ window. IsCivilTime window.at) script.windows.items)
    → IfOk answer (λ script. IsSound (plain_script script))
answer-sound (Ok script) members devices routines windows read civil =
    parts-sound members (plain_script script) devices routines windows read
    (All-map (λ (w : PlainWindow). IsCivilTime w.at) plain_window script.windows.items civil)
answer-sound (Err fault) members devices routines windows read civil = tt
