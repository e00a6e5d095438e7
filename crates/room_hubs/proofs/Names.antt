-- The rooms of one device more.
use Rattle.room_hubs.proofs.Loops.{next_folded, place_none, place_some}
use Rattle.room_hubs.proofs.Prelude.{Bool, DeviceText, List, None, PlainRooms, Some, [], ap, arith, bytes_eq, false, fold, get_or, if◌then◌else◌, length, length-append, map, no_rooms, position_or_len, room_name, sym, take, true, with_device, with_room, ℕ, ◌++◌, ◌+◌, ◌<◌, ◌∙◌, ◌∷◌, ◌≡◌, ◌≤◌}
use Rattle.routine_reader.specs.Names.{is_among, place_of}

-- at most one more name
pub names_few : (names : List (List ℕ)) (room : List ℕ) → length (with_room names room) ≤ length names + 1
names_few names room = by (is_among names room)
  where
    by : (b : Bool) → length (if b then names else names ++ room ∷ []) ≤ length names + 1
    by true = omega arith
    by false = omega (arith, length-append names (room ∷ []))

-- a room that is among the names, and one that is new
pub known_room : (names : List (List ℕ)) (room : List ℕ) (place : ℕ) → Some place ≡ place_of names room → names ≡ with_room names room
known_room names room place at = ap (λ b. if b then names else names ++ room ∷ []) (sym (place_some (bytes_eq room) names place at).1)

pub new_room : (names : List (List ℕ)) (room : List ℕ) → None ≡ place_of names room → names ++ room ∷ [] ≡ with_room names room
new_room names room at = ap (λ b. if b then names else names ++ room ∷ []) (sym (place_none (bytes_eq room) names at).1)

pub new_number : (names : List (List ℕ)) (room : List ℕ) → None ≡ place_of names room → length names ≡ position_or_len (bytes_eq room) names
new_number names room at = sym (place_none (bytes_eq room) names at).0

abbrev room_named : DeviceText → List ℕ
room_named device = room_name device.name

pub rooms_next : (devices : List DeviceText) (i : ℕ) (device : DeviceText) (names : List (List ℕ)) (room_of : List ℕ) (room : List ℕ) (n : ℕ) → i < length devices
    → device ≡ get_or devices i device → room ≡ room_name device.name → n ≡ position_or_len (bytes_eq room) names
    → record { names = names; room_of = room_of } ≡ fold with_device no_rooms (map (λ device. room_name device.name) (take i devices))
    → record { names = with_room names room; room_of = room_of ++ n ∷ [] } ≡ fold with_device no_rooms (map (λ device. room_name device.name) (take (i + 1) devices))
rooms_next devices i device names room_of room n within is named number so =
    let rooms : PlainRooms = record { names = names; room_of = room_of } in
    let numbered : record { names = with_room names room; room_of = room_of ++ n ∷ [] } ≡ with_device rooms room = λ j. record { names = with_room names room; room_of = room_of ++ number j ∷ [] } in
    numbered
    ∙ (λ j. with_device (so j) ((named ∙ ap room_named is) j))
    ∙ sym (next_folded with_device no_rooms room_named devices i device within)
