-- Names of a sound script: each is a word, and names its own device.
use Rattle.printed_records.proofs.Prelude.{DeviceText, IsName, IsSound, IsSoundDevice, IsSoundRoutine, List, PlainDevice, RoutineText, Script, Some, [], ap, arith, bytes_eq, common_steps, device_named, is_name_byte, list_all, map, option_map, plain_device, plain_routine, plain_script, position, refl, seen_at, slice_get, slice_get-map, starts_with_letter, sym, true, ℕ, ◌∙◌, ◌∷◌, ◌≡◌}
use Rattle.printed_records.proofs.Firsts.{bytes_eq-self, position-at}
use Rattle.printed_records.proofs.Plain.{IsPlain, IsWord, is_plain, word-plain}
use Rattle.routine_reader.proofs.Cited.{position-map}

name-byte : (b : ℕ) → is_name_byte b ≡ true → is_plain b ≡ true
name-byte b is = grind (arith, common_steps)

name-bytes : (text : List ℕ) → list_all is_name_byte text ≡ true → IsPlain text
name-bytes [] are = refl
name-bytes (b ∷ text) are =
    let first : is_plain b ≡ true = name-byte b (grind (arith, common_steps)) in
    let rest = name-bytes text (grind (arith, common_steps)) in
    grind (arith, common_steps)

-- a name is a plain text
pub name-plain : (name : List ℕ) → IsName name → IsPlain name
name-plain name is = name-bytes name (grind (arith, common_steps))

pub name-word : (name : List ℕ) → IsName name → IsWord name
name-word name is = word-plain name (name-plain name is)

pub name-letter : (name : List ℕ) → IsName name → starts_with_letter name ≡ true
name-letter name is = grind (arith, common_steps)

pub sound-device : (script : Script) (d : ℕ) (device : DeviceText) → IsSound (plain_script script) → slice_get script.devices.items d ≡ Some device → IsSoundDevice (plain_device device)
sound-device script d device sound at = seen_at plain_device IsSoundDevice script.devices.items d device sound.devices at

pub sound-routine : (script : Script) (i : ℕ) (routine : RoutineText) → IsSound (plain_script script) → slice_get script.routines.items i ≡ Some routine
    → IsSoundRoutine (map plain_device script.devices.items) (plain_routine routine)
sound-routine script i routine sound at = seen_at plain_routine (IsSoundRoutine (map plain_device script.devices.items)) script.routines.items i routine sound.routines at

abbrev plain_name : PlainDevice → List ℕ
plain_name device = device.name

-- the name of a device names it
pub device-named : (script : Script) (d : ℕ) (device : DeviceText) → IsSound (plain_script script) → slice_get script.devices.items d ≡ Some device
    → device_named script.devices.items device.name ≡ Some d
device-named script d device sound at =
    let devices = map plain_device script.devices.items in
    let there : slice_get devices d ≡ Some (plain_device device) = slice_get-map plain_device script.devices.items d ∙ ap (option_map plain_device) at in
    let name_there : slice_get (map plain_name devices) d ≡ Some device.name = slice_get-map plain_name devices d ∙ ap (option_map plain_name) there in
    let place : position (bytes_eq device.name) (map plain_name devices) ≡ Some d =
    position-at (bytes_eq device.name) (map plain_name devices) d device.name name_there (bytes_eq-self device.name) (sound.device_names d device.name name_there) in
    sym (position-map plain_name (bytes_eq device.name) devices ∙ position-map plain_device (λ y. bytes_eq device.name (plain_name y)) script.devices.items) ∙ place
