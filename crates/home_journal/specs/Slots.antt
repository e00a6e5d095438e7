-- What the slots of a journal's file hold: the bytes that tell one state of the home each.
use Rattle.home_types.specs.Kinds.{has_value}
use Rattle.home_types.specs.declared.kinds.Kind.{Kind}
use Rattle.home_types.specs.declared.worlds.Stand.{Stand}
use Rattle.std.specs.Int.{from_le_bytes, to_le_bytes, w16, w32}
use Rattle.std.specs.List.{flat_map}
use Rattle.std.specs.Option.{option_map}
use Rattle.std.specs.Prelude.{List, None, Option, Some, [], drop, if◌then◌else◌, length, nat_le, take, ℕ, ◌&&◌, ◌*◌, ◌++◌, ◌+◌, ◌==◌, ◌∷◌}

-- how many bytes stand behind a gate in the file of a home with so many devices
abbrev pub body_size : ℕ → ℕ
body_size devices = 6 + 5 * devices

-- where a device stands, as bytes: its value, and 1 for up and 0 for down
abbrev pub stand_bytes : Stand → List ℕ
stand_bytes s = to_le_bytes w32 s.value ++ (if s.up then 1 else 0) ∷ []

-- what stands behind the gate of the slot that tells this state, of the window of this number
abbrev pub state_bytes : ℕ → List Stand → List ℕ
state_bytes number home =
    to_le_bytes w32 number ++ to_le_bytes w16 (length home) ++ flat_map stand_bytes home

-- where devices of these kinds stand by these bytes; none where a value is not one of its kind, or
-- a last byte above 1
abbrev pub stands_of : List Kind → List ℕ → Option (List Stand)
stands_of [] bytes = Some []
stands_of (kind ∷ kinds) (a ∷ b ∷ c ∷ d ∷ up ∷ rest) =
    let value = from_le_bytes w32 (a ∷ b ∷ c ∷ d ∷ []) in
    if has_value kind value && nat_le up 1
    then option_map (λ home. (record { value = value; up = up == 1 }) ∷ home) (stands_of kinds rest)
    else None
stands_of (kind ∷ kinds) bytes = None

-- the state that is told behind the gate of the slot of this window; none where that slot is not
-- good
abbrev pub slot_state : List Kind → ℕ → List ℕ → Option (List Stand)
slot_state kinds number (a ∷ b ∷ c ∷ d ∷ e ∷ f ∷ rest) =
    if (from_le_bytes w32 (a ∷ b ∷ c ∷ d ∷ []) == number)
    && (from_le_bytes w16 (e ∷ f ∷ []) == length kinds)
    then stands_of kinds rest
    else None
slot_state kinds number bytes = None

-- the file once one slot more is kept: this stands behind an open gate at this place, and behind it
-- a gate that is shut
abbrev pub with_slot : ℕ → List ℕ → List ℕ → List ℕ
with_slot at body bytes = take at bytes ++ 1 ∷ (body ++ 0 ∷ drop (at + length body + 2) bytes)
