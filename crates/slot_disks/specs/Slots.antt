-- The slots of a file: a gate byte each, and after it as many bytes as each other slot has.
use Rattle.std.specs.Prelude.{Bool, List, None, Option, Some, [], drop, if◌then◌else◌, length, nat_lt, slice_get, suc, take, true, zero, ℕ, ◌&&◌, ◌*◌, ◌++◌, ◌+◌, ◌==◌, ◌∷◌}

-- what stands behind the gates of the slots before the first that is not open, at most so many. A
-- slot is open where its gate is 1 and the gate behind it is there
abbrev pub open_slots : ℕ → ℕ → List ℕ → List (List ℕ)
open_slots size zero bytes = []
open_slots size (suc most) [] = []
open_slots size (suc most) (gate ∷ rest) =
    if (gate == 1) && nat_lt size (length rest)
    then take size rest ∷ open_slots size most (drop size rest) else []

-- a gate that is missing or open is to be shut
abbrev pub is_to_shut : Option ℕ → Bool
is_to_shut None = true
is_to_shut (Some gate) = gate == 1

-- the file once it was opened: where one slot more may be opened, and its gate is to be shut, that
-- gate is 0
abbrev pub with_shut_gate : ℕ → ℕ → List ℕ → List ℕ
with_shut_gate size most bytes =
    let at = length (open_slots size most bytes) * (size + 1) in
    if nat_lt (length (open_slots size most bytes)) most && is_to_shut (slice_get bytes at)
    then take at bytes ++ 0 ∷ drop (at + 1) bytes
    else bytes

-- the file once a group of slots is written: there an open gate, and these bytes after it
abbrev pub with_group : ℕ → List ℕ → List ℕ → List ℕ
with_group at after bytes = take at bytes ++ 1 ∷ (after ++ drop (at + 1 + length after) bytes)
