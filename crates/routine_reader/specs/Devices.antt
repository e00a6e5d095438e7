-- The reading of a device.
use Rattle.home_types.specs.Kinds.{has_value}
use Rattle.home_types.specs.declared.kinds.Kind.TheVariants.{Range, States}
use Rattle.home_types.specs.declared.kinds.Kind.{Kind}
use Rattle.routine_reader.specs.Forms.{has_form, if_there, items_in, lacks, needed, number_of, or_default, state_of}
use Rattle.routine_reader.specs.Names.{new_name, place_of}
use Rattle.routine_reader.specs.Scripts.{PlainDevice}
use Rattle.routine_reader.specs.Spots.{at, inside}
use Rattle.routine_reader.specs.Walks.{read_each, within_limit, ◌>>=◌}
use Rattle.routine_reader.specs.declared.faults.Count.TheVariants as count
use Rattle.routine_reader.specs.declared.faults.Part.TheVariants as part
use Rattle.routine_reader.specs.declared.faults.ReadFault.TheVariants.{BadState, Shape}
use Rattle.routine_reader.specs.declared.faults.ReadFault.{ReadFault}
use Rattle.routine_reader.specs.declared.faults.Spot.{Spot}
use Rattle.routine_reader.specs.declared.forms.Form.TheVariants as form
use Rattle.serde_json.specs.Data.{Data}
use Rattle.serde_json.specs.Find.{as_str}
use Rattle.std.specs.Prelude.{Bool, Err, List, None, Ok, Option, Result, Some, [], codes, if◌then◌else◌, length, map, nat_le, nat_lt, not, ok_or, option_and_then, ℕ, ◌&&◌, ◌+◌, ◌==◌, ◌∷◌}

-- ---- its members

-- the members of a device, each of its type; low and high are 0 where it has states
pub record DeviceMembers : Type 0 where
  pub name : List ℕ
  pub states : Option (List Data)
  pub low : ℕ
  pub high : ℕ
  pub start : Data
  pub down : List Data

-- either states, or both low and high
abbrev pub has_states_or_range : Data → Bool
has_states_or_range value =
    if lacks (codes "states") value
    then not (lacks (codes "low") value) && not (lacks (codes "high") value)
    else lacks (codes "low") value && lacks (codes "high") value

abbrev pub device_with : Option (List ℕ) → Option (Option (List Data)) → Option ℕ → Option ℕ
    → Option Data → Option (List Data) → Option DeviceMembers
device_with (Some name) (Some states) (Some low) (Some high) (Some start) (Some down) =
    Some
    (record { name = name; states = states; low = low; high = high; start = start; down = down })
device_with name states low high start down = None

abbrev pub device_members : Data → Option DeviceMembers
device_members value =
    if has_form form.Device value && has_states_or_range value then
    (device_with
    (needed as_str (codes "name") value)
    (if_there items_in (codes "states") value)
    (or_default number_of 0 (codes "low") value)
    (or_default number_of 0 (codes "high") value)
    (needed state_of (codes "start") value)
    (or_default items_in [] (codes "down") value))
    else None

-- ---- its values

-- a text that is a name, unlike the states before it
abbrev pub state_name : Spot → List (List ℕ) → Data → Result (List ℕ) ReadFault
state_name spot earlier value = do
  name ← ok_or (as_str value) (Shape spot)
  new_name spot earlier name

-- 1 to 256 of them
unfoldable pub state_names : Spot → List Data → Result (List (List ℕ)) ReadFault
state_names spot values =
    if length values == 0 then Err (Shape spot)
    else do
      few ← within_limit count.States (length values)
      read_each (state_name spot) [] values

-- the kind of a device, and the names of its states
pub record DeviceValues : Type 0 where
  pub kind : Kind
  pub states : List (List ℕ)

abbrev pub states_with : List (List ℕ) → DeviceValues
states_with names = record { kind = States (length names); states = names }

abbrev pub range_with : ℕ → ℕ → DeviceValues
range_with low high = record { kind = Range low high; states = [] }

-- its states, or the numbers from low to high
unfoldable pub device_values : Spot → Option (List Data) → ℕ → ℕ → Result DeviceValues ReadFault
device_values spot (Some values) low high = do
  names ← state_names spot values
  Ok (states_with names)
device_values spot None low high =
    if nat_le low high then Ok (range_with low high) else Err (BadState spot)

abbrev pub value_within : Kind → ℕ → Option ℕ
value_within kind value = if has_value kind value then Some value else None

-- the value that a text or a whole number is: the place of a state, or a number of the range
abbrev pub value_in : Kind → List (List ℕ) → Data → Option ℕ
value_in (States n) states value = option_and_then (place_of states) (as_str value)
value_in (Range low high) states value =
    option_and_then (value_within (Range low high)) (number_of value)

-- ---- when it is down

abbrev pub down_within : ℕ → ℕ → Option (ℕ × ℕ)
down_within from to = if nat_le 1 from && nat_lt from to then Some (from, to) else None

-- two whole numbers, the first at least 1 and below the second
abbrev pub down_in : List Data → Option (ℕ × ℕ)
down_in (from ∷ to ∷ []) =
    option_and_then (λ first. option_and_then (down_within first) (number_of to)) (number_of from)
down_in values = None

abbrev pub down_reading : Spot → Data → Result (ℕ × ℕ) ReadFault
down_reading spot value = ok_or (option_and_then down_in (items_in value)) (Shape spot)

abbrev pub next_down : ℕ → List (ℕ × ℕ) → Data → Result (ℕ × ℕ) ReadFault
next_down device earlier value = down_reading (inside part.Down device (length earlier + 1)) value

-- at most 16 of them
unfoldable pub downs_reading : ℕ → List Data → Result (List (ℕ × ℕ)) ReadFault
downs_reading device values = do
  few ← within_limit count.Downs (length values)
  read_each (next_down device) [] values

-- ---- the device

abbrev pub device_names : List PlainDevice → List (List ℕ)
device_names devices = map (λ device. device.name) devices

-- the device with this number, after devices with these names
unfoldable pub device_reading : ℕ → List (List ℕ) → Data → Result PlainDevice ReadFault
device_reading number names value =
    let spot = at part.Device number in do
      members ← ok_or (device_members value) (Shape spot)
      name ← new_name spot names members.name
      values ← device_values spot members.states members.low members.high
      start ← ok_or (value_in values.kind values.states members.start) (BadState spot)
      downs ← downs_reading number members.down
      Ok (record {
        name = name;
        kind = values.kind;
        states = values.states;
        start = start;
        downs = downs;
      })

abbrev pub next_device_read : List PlainDevice → Data → Result PlainDevice ReadFault
next_device_read earlier value = device_reading (length earlier + 1) (device_names earlier) value
