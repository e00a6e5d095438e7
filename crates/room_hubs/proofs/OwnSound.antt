-- The script of a room with its devices alone is sound.
use Rattle.home_types.specs.Listed.{Listed}
use Rattle.room_hubs.proofs.Prelude.{All, AreDifferent, Bool, DeviceNo, DeviceText, IsSound, IsSoundDevice, List, PlainDevice, RoutineText, Script, WindowText, [], ap, arith, bytes_eq, cases_order, device_room, devices_in, false, get_or, get_or-map, get_or-take, get_or_default, get_or_from_slice_get, inl, inr, length, length-map, length-take, map, no_device_text, numbers_of_devices, plain_device, plain_devices, plain_routine, plain_script, plain_window, refl, room_devices, rooms_of, slice_get-get_or, slice_get_within, slice_index_or, subst, sym, take, true, true≢false, ℕ, ◌<◌, ◌==◌, ◌∙◌, ◌≡◌, ◌⊎◌}
use Rattle.room_hubs.proofs.Parts.{Filtered, filtered, none_passes}
use Rattle.room_hubs.proofs.RoomScripts.{device_there, seen_devices}
use Rattle.room_hubs.proofs.SoundRuns.{rooms_size}
use Rattle.routine_reader.specs.Devices.{device_names}
use Rattle.std.proofs.lemmas.List.Folds.{list_any_none}
use Rattle.std.proofs.lemmas.Slice.Eq.{bytes_eq-Decides}

-- names that are different have one place each

earlier_differs : (names : List (List ℕ)) → AreDifferent names → (d e : ℕ) → d < e → e < length names → get_or names d [] ≡ get_or names e [] → ⊥
earlier_differs names differ d e before within same =
    let name = get_or names e [] in
    let none = differ e name (slice_get-get_or names e [] within) in
    let size : length (take e names) ≡ e = length-take e names ∙ omega (arith, within) in
    let unlike = none_passes (bytes_eq name) (take e names) none d [] (omega (arith, before, size)) in
    let alike : bytes_eq name (get_or (take e names) d []) ≡ true = (bytes_eq-Decides name (get_or (take e names) d [])).1 (sym (get_or-take e names d [] before ∙ same)) in
    true≢false (sym alike ∙ unlike)

one_place : (names : List (List ℕ)) → AreDifferent names → (d e : ℕ) → d < length names → e < length names → get_or names d [] ≡ get_or names e [] → d ≡ e
one_place names differ d e in_d in_e same = by (cases_order d e)
  where
    by : (d ≡ e) ⊎ ((d < e) ⊎ (e < d)) → d ≡ e
    by (inl is) = is
    by (inr (inl less)) = absurd (earlier_differs names differ d e less in_e same)
    by (inr (inr more)) = absurd (earlier_differs names differ e d more in_d (sym same))

-- the devices of a room are devices of the home
pub number_there : (script : Script) (k : ℕ) (numbers : List DeviceNo) → numbers_of_devices numbers ≡ devices_in (rooms_of script).room_of k → (i : ℕ) (d : DeviceNo) → i < length numbers
    → (slice_index_or numbers i d).0 < length script.devices.items
number_there script k numbers are i d within =
    let low = device_there script k i (let size = ap (λ l. length l) are in omega (arith, within, size, length-map numbers (λ (x : DeviceNo). x.0))) in
    let same = sym (get_or-map (λ (x : DeviceNo). x.0) numbers i d 0 within) ∙ ap (λ l. get_or l i 0) are in
    omega (arith, low, same)

module _ (script : Script) (sound : IsSound (plain_script script)) (k : ℕ) where
  abbrev Numbers : List ℕ
  Numbers = devices_in (rooms_of script).room_of k

  abbrev All_devices : List PlainDevice
  All_devices = map plain_device script.devices.items

  abbrev None_such : PlainDevice
  None_such = plain_device no_device_text

  abbrev Own : List PlainDevice
  Own = map (λ d. slice_index_or All_devices d None_such) Numbers

  f : Filtered (λ d. device_room (rooms_of script).room_of d == k) 0 (length (rooms_of script).room_of) Numbers
  f = filtered (λ d. device_room (rooms_of script).room_of d == k) 0 (length (rooms_of script).room_of)

  own_at : (i : ℕ) (e : PlainDevice) → i < length Numbers → get_or Own i e ≡ get_or All_devices (get_or Numbers i 0) None_such
  own_at i e within = get_or-map (λ d. slice_index_or All_devices d None_such) Numbers i 0 e within

  there : (i : ℕ) → i < length Numbers → get_or Numbers i 0 < length All_devices
  there i within = let low = device_there script k i within in omega (arith, low, length-map script.devices.items plain_device)

  own_length : length Own ≡ length Numbers
  own_length = length-map Numbers (λ d. slice_index_or All_devices d None_such)

  name_at : (i : ℕ) → i < length Numbers → get_or (device_names Own) i [] ≡ get_or (device_names All_devices) (get_or Numbers i 0) []
  name_at i within =
      get_or-map (λ (x : PlainDevice). x.name) Own i None_such [] (omega (arith, within, own_length)) ∙ ap (λ (x : PlainDevice). x.name) (own_at i None_such within)
      ∙ sym (get_or-map (λ (x : PlainDevice). x.name) All_devices (get_or Numbers i 0) None_such [] (there i within))

  -- the names of the room's devices are different
  differ : AreDifferent (device_names Own)
  differ i name at = list_any_none (bytes_eq name) (take i (device_names Own)) unlike
    where
      size : length (device_names Own) ≡ length Numbers
      size = length-map Own (λ (x : PlainDevice). x.name) ∙ own_length

      inside : i < length Numbers
      inside = let within = slice_get_within (device_names Own) i name at in omega (arith, within, size)

      all_names : length (device_names All_devices) ≡ length All_devices
      all_names = length-map All_devices (λ (x : PlainDevice). x.name)

      unlike : All (λ x. bytes_eq name x ≡ false) (take i (device_names Own))
      unlike j d within = by (bytes_eq name (get_or (take i (device_names Own)) j d)) refl
        where
          less : j < i
          less = let n = length-take i (device_names Own) in omega (arith, within, n)

          by : (b : Bool) → bytes_eq name (get_or (take i (device_names Own)) j d) ≡ b → b ≡ false
          by false e = refl
          by true e =
              let same : name ≡ get_or (take i (device_names Own)) j d = (bytes_eq-Decides name (get_or (take i (device_names Own)) j d)).0 e in
              let in_j : j < length Numbers = omega (arith, less, inside) in
              let names_same : get_or (device_names All_devices) (get_or Numbers j 0) [] ≡ get_or (device_names All_devices) (get_or Numbers i 0) [] =
              sym (name_at j in_j) ∙ get_or_default (device_names Own) j [] d (omega (arith, in_j, size)) ∙ sym (get_or-take i (device_names Own) j d less) ∙ sym same
              ∙ sym (get_or_from_slice_get (device_names Own) i name [] at) ∙ name_at i inside in
              let dj = there j in_j in
              let di = there i inside in
              let one = one_place (device_names All_devices) sound.device_names (get_or Numbers j 0) (get_or Numbers i 0) (omega (arith, dj, all_names)) (omega (arith, di, all_names)) names_same in
              let is : j ≡ i = f.distinct j i in_j inside one in
              absurd (omega (arith, is, less))

  own_is_sound : IsSound (record { devices = Own; routines = []; windows = [] })
  own_is_sound = record {
    few_devices = let few = f.few in let n = rooms_size script in let all = sound.few_devices in omega (arith, own_length, few, n, all, length-map script.devices.items plain_device);
    devices = λ i d within.
        let inside : i < length Numbers = omega (arith, within, own_length) in
        subst IsSoundDevice (sym (own_at i d inside)) (sound.devices (get_or Numbers i 0) None_such (there i inside));
    device_names = differ;
    few_routines = omega arith;
    routines = λ i d within. absurd (omega (arith, within));
    routine_names = λ i name at. absurd (cc);
    few_windows = omega arith;
    windows = λ i d within. absurd (omega (arith, within));
    in_order = λ i a b at next. absurd (cc);
  }

  pub own_sound : (devices : Listed DeviceText) (routines : Listed RoutineText) (windows : Listed WindowText) → plain_devices devices.items ≡ plain_devices (room_devices script k) → routines.items ≡ [] → windows.items ≡ []
      → IsSound (plain_script (record { devices = devices; routines = routines; windows = windows }))
  own_sound devices routines windows are none_routine none_window =
      let same : plain_devices devices.items ≡ Own = are ∙ seen_devices script k plain_device None_such in
      subst IsSound (λ i. record { devices = sym same i; routines = map plain_routine (sym none_routine i); windows = map plain_window (sym none_window i) }) own_is_sound
