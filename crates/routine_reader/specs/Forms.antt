-- The members of each object of a script, as the value that `serde_json` reads has them.
use Rattle.routine_reader.specs.Limits.{most_of_32_bits, most_of_64_bits}
use Rattle.routine_reader.specs.declared.forms.Form.TheVariants.{Command, Day, Device, Guard, GuardedCommand, Routine, Run, Window}
use Rattle.routine_reader.specs.declared.forms.Form.{Form}
use Rattle.serde_json.specs.Data.{Data, Items, Members, item, member, no_items, no_members}
use Rattle.serde_json.specs.Find.{as_array, as_number, as_object, as_str, as_u64, get}
use Rattle.std.specs.List.{list_all}
use Rattle.std.specs.Option.{option_map_or}
use Rattle.std.specs.Prelude.{Bool, List, None, Option, Some, [], codes, false, if◌then◌else◌, is_none, is_some, nat_le, option_and_then, option_map, ℕ, ◌||◌, ◌∷◌}
use Rattle.std.specs.Str.{bytes_eq}

-- a member of a command of version 1
abbrev pub is_of_command : List ℕ → Bool
is_of_command name =
    bytes_eq name (codes "on") || bytes_eq name (codes "do") || bytes_eq name (codes "to")
    || bytes_eq name (codes "must")
    || bytes_eq name (codes "ms")
    || bytes_eq name (codes "takes")

-- the table of an object has a member of this name
abbrev pub knows : Form → List ℕ → Bool
knows Day name =
    bytes_eq name (codes "safehome") || bytes_eq name (codes "devices")
    || bytes_eq name (codes "routines")
    || bytes_eq name (codes "windows")
knows Device name =
    bytes_eq name (codes "name") || bytes_eq name (codes "states") || bytes_eq name (codes "low")
    || bytes_eq name (codes "high")
    || bytes_eq name (codes "start")
    || bytes_eq name (codes "down")
knows Routine name = bytes_eq name (codes "name") || bytes_eq name (codes "commands")
knows Command name = is_of_command name
knows GuardedCommand name = is_of_command name || bytes_eq name (codes "when")
knows Guard name = bytes_eq name (codes "is") || bytes_eq name (codes "below")
knows Window name =
    bytes_eq name (codes "at") || bytes_eq name (codes "seed") || bytes_eq name (codes "probes")
    || bytes_eq name (codes "turns")
    || bytes_eq name (codes "runs")
knows Run name = bytes_eq name (codes "routine") || bytes_eq name (codes "follows")

abbrev pub names_of : Members → List (List ℕ)
names_of no_members = []
names_of (member name value members) = name ∷ names_of members

abbrev pub list_of : Items → List Data
list_of no_items = []
list_of (item value items) = value ∷ list_of items

-- an object, with no member that its table does not have
abbrev pub has_form : Form → Data → Bool
has_form form value =
    option_map_or (λ members. list_all (knows form) (names_of members)) (as_object value) false

abbrev pub lacks : List ℕ → Data → Bool
lacks name value = is_none (get name value)

-- the number, where it is at most this
abbrev pub at_most : ℕ → ℕ → Option ℕ
at_most most number = if nat_le number most then Some number else None

-- a whole number of 64 bits, and one of 32 bits
abbrev pub long_number_of : Data → Option ℕ
long_number_of value =
    option_and_then (at_most most_of_64_bits) (option_and_then as_u64 (as_number value))

abbrev pub number_of : Data → Option ℕ
number_of value =
    option_and_then (at_most most_of_32_bits) (option_and_then as_u64 (as_number value))

-- a text or a whole number, which may name a state
abbrev pub is_state : Data → Bool
is_state value = is_some (as_str value) || is_some (number_of value)

abbrev pub state_of : Data → Option Data
state_of value = if is_state value then Some value else None

abbrev pub items_in : Data → Option (List Data)
items_in value = option_map list_of (as_array value)

-- a member that is required, of this type
abbrev pub needed : {T : Type 0} → (Data → Option T) → List ℕ → Data → Option T
needed type name value = option_and_then type (get name value)

-- a member of this type, or what stands for it where it is missing
abbrev pub or_default : {T : Type 0} → (Data → Option T) → T → List ℕ → Data → Option T
or_default type default name value = option_map_or type (get name value) (Some default)

abbrev pub present : {T : Type 0} → (Data → Option T) → Data → Option (Option T)
present type value = option_map (λ t. Some t) (type value)

-- a member of this type, or none where it is missing
abbrev pub if_there : {T : Type 0} → (Data → Option T) → List ℕ → Data → Option (Option T)
if_there type name value = option_map_or (present type) (get name value) (Some None)
