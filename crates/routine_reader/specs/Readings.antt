-- The reading of a script.
use Rattle.home_types.specs.Limits.{most_script_bytes}
use Rattle.routine_reader.specs.Devices.{next_device_read}
use Rattle.routine_reader.specs.Forms.{has_form, items_in, long_number_of, needed}
use Rattle.routine_reader.specs.Routines.{next_routine, routine_names}
use Rattle.routine_reader.specs.Scripts.{PlainScript}
use Rattle.routine_reader.specs.Spots.{top}
use Rattle.routine_reader.specs.Walks.{read_each, within_limit, ◌>>=◌}
use Rattle.routine_reader.specs.Windows.{next_window_read}
use Rattle.routine_reader.specs.declared.faults.Count.TheVariants as count
use Rattle.routine_reader.specs.declared.faults.ReadFault.TheVariants.{BadVersion, NotJson, Shape, TooMany}
use Rattle.routine_reader.specs.declared.faults.ReadFault.{ReadFault}
use Rattle.routine_reader.specs.declared.forms.Form.TheVariants.{Day}
use Rattle.serde_json.specs.Data.{Data}
use Rattle.serde_json.specs.Read.{read}
use Rattle.std.specs.Prelude.{Err, List, None, Ok, Option, Result, Some, [], codes, if◌then◌else◌, length, nat_le, ok_or, ℕ, ◌+◌, ◌==◌, ◌||◌}
use Rattle.std.specs.Str.{is_utf8}

-- the value that `serde_json` reads
abbrev pub json_value_of : List ℕ → Option Data
json_value_of bytes = if is_utf8 bytes then read bytes else None

-- the members of the top object, each of its type
pub record DayMembers : Type 0 where
  pub version : ℕ
  pub devices : List Data
  pub routines : List Data
  pub windows : List Data

abbrev pub day_with : Option ℕ → Option (List Data) → Option (List Data) → Option (List Data)
    → Option DayMembers
day_with (Some version) (Some devices) (Some routines) (Some windows) =
    Some (record { version = version; devices = devices; routines = routines; windows = windows })
day_with version devices routines windows = None

abbrev pub day_members : Data → Option DayMembers
day_members value =
    if has_form Day value then
    (day_with
    (needed long_number_of (codes "safehome") value)
    (needed items_in (codes "devices") value)
    (needed items_in (codes "routines") value)
    (needed items_in (codes "windows") value))
    else None

-- the devices, then the routines, then the windows
unfoldable pub parts_reading : DayMembers → Result PlainScript ReadFault
parts_reading members = do
  devices ← read_each next_device_read [] members.devices
  routines ← read_each (next_routine members.version devices) [] members.routines
  windows ← read_each (next_window_read (routine_names routines)) [] members.windows
  Ok (record { devices = devices; routines = routines; windows = windows })

-- a script of version 1 or 2, with no more of each than the limit
unfoldable pub members_reading : DayMembers → Result PlainScript ReadFault
members_reading members =
    if members.version == 1 || members.version == 2 then
    (do
      few_devices ← within_limit count.Devices (length members.devices)
      few_routines ← within_limit count.Routines (length members.routines)
      few_windows ← within_limit count.Windows (length members.windows)
      parts_reading members)
    else Err (BadVersion members.version)

unfoldable pub value_reading : Data → Result PlainScript ReadFault
value_reading value = do
  members ← ok_or (day_members value) (Shape top)
  members_reading members

-- the script that the bytes are, or the first refusal of the walk
unfoldable pub script_reading : List ℕ → Result PlainScript ReadFault
script_reading bytes =
    if nat_le (length bytes) most_script_bytes then
    (do
      value ← ok_or (json_value_of bytes) NotJson
      value_reading value)
    else Err (TooMany count.Bytes (most_script_bytes + 1) most_script_bytes)
