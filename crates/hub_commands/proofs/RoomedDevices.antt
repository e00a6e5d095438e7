-- The rooms of the devices of a script: each has one of the names.
use Rattle.hub_commands.proofs.Prelude.{Bool, IsRoomed, List, PlainRooms, Script, Some, [], any_is, arith, common_steps, cond, device_room, false, fold, if◌then◌else◌, inl, inr, length, length-append, map, nat_lt, no_rooms, not, position_or_len, refl, room_count, room_name, rooms_of, slice_get, slice_get-get_or, snoc_get, subst, suc, sym, true, with_device, with_room, ℕ, ◌++◌, ◌+◌, ◌<◌, ◌∙◌, ◌∷◌, ◌≡◌, ◌≤◌}
use Rattle.routine_reader.specs.Names.{is_among}
use Rattle.std.specs.Str.{bytes_eq}

below : (a b : ℕ) → nat_lt a b ≡ true → a < b
below a b is = grind (arith, common_steps)

place_within : (p : List ℕ → Bool) (names : List (List ℕ)) → position_or_len p names ≤ length names
place_within p [] = omega arith
place_within p (name ∷ names) = by (p name) (place_within p names)
  where
    by : (b : Bool) → position_or_len p names ≤ length names → cond (not b) (1 + position_or_len p names) 0 ≤ suc (length names)
    by true low = omega arith
    by false low = omega (arith, low)

-- the number of a room is that of a name
number_low : (names : List (List ℕ)) (room : List ℕ) → position_or_len (bytes_eq room) names < length (with_room names room)
number_low names room = by (is_among names room) refl
  where
    by : (b : Bool) → is_among names room ≡ b → position_or_len (bytes_eq room) names < length (if b then names else names ++ room ∷ [])
    by true e = below (position_or_len (bytes_eq room) names) (length names) (sym (any_is (bytes_eq room) names) ∙ e)
    by false e = omega (arith, place_within (bytes_eq room) names, length-append names (room ∷ []))

names_stay : (names : List (List ℕ)) (room : List ℕ) → length names ≤ length (with_room names room)
names_stay names room = by (is_among names room)
  where
    by : (b : Bool) → length names ≤ length (if b then names else names ++ room ∷ [])
    by true = omega arith
    by false = omega (arith, length-append names (room ∷ []))

abbrev AreLow : PlainRooms → Type 0
AreLow rooms = (d n : ℕ) → slice_get rooms.room_of d ≡ Some n → n < length rooms.names

low_from : (start : PlainRooms) (rooms : List (List ℕ)) → AreLow start → AreLow (fold with_device start rooms)
low_from start [] low = low
low_from start (room ∷ rooms) low = low_from (with_device start room) rooms (λ d n at. elim (snoc_get start.room_of (position_or_len (bytes_eq room) start.names) n d at) [
  | inl old ↦ (let is = low d n old in omega (arith, is, names_stay start.names room))
  | inr new ↦ subst (λ m. m < length (with_room start.names room)) new.1 (number_low start.names room)
])

-- each device is in one of the rooms
pub are_roomed : (script : Script) → IsRoomed (rooms_of script).room_of (room_count script)
are_roomed script d within =
    low_from no_rooms (map room_name (map (λ device. device.name) script.devices.items)) (λ e n at. absurd (cc)) d (device_room (rooms_of script).room_of d) (slice_get-get_or (rooms_of script).room_of d 0 within)
