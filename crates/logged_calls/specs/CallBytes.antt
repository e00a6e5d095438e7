-- Calls as bytes, and the calls read from bytes.
use Rattle.logged_calls.specs.Records.{call_of, record_of}
use Rattle.logged_calls.specs.declared.calls.Logged.{Logged}
use Rattle.logged_calls.specs.declared.records.Record.{Record}
use Rattle.std.specs.Int.{from_le_bytes, to_le_bytes, w16, w32, w64}
use Rattle.std.specs.List.{flat_map}
use Rattle.std.specs.Prelude.{List, None, Option, Some, [], drop, if◌then◌else◌, length, nat_lt, slice_index, suc, zero, ℕ, ◌*◌, ◌++◌, ◌+◌, ◌/◌, ◌∷◌}

-- how many bytes a call has
abbrev pub call_size : ℕ
call_size = 24

-- the numbers of a record as bytes, the low ones first
abbrev pub record_bytes : Record → List ℕ
record_bytes r =
    r.kind ∷ r.sort ∷ (to_le_bytes w16 r.device
    ++ (to_le_bytes w32 r.value ++ (to_le_bytes w64 r.first ++ to_le_bytes w64 r.second)))

-- the bytes of a call
abbrev pub call_bytes : Logged → List ℕ
call_bytes call = record_bytes (record_of call)

-- the bytes of these calls, one after the other
abbrev pub calls_bytes : List Logged → List ℕ
calls_bytes calls = flat_map call_bytes calls

-- the number in the two, four or eight bytes from this place on
abbrev pub number_of_2 : List ℕ → ℕ → ℕ
number_of_2 bytes at =
    from_le_bytes w16 (slice_index bytes at ∷ slice_index bytes (at + 1) ∷ [])

abbrev pub number_of_4 : List ℕ → ℕ → ℕ
number_of_4 bytes at =
    from_le_bytes w32
    (slice_index bytes at ∷ slice_index bytes (at + 1) ∷ slice_index bytes (at + 2)
    ∷ slice_index bytes (at + 3) ∷ [])

abbrev pub number_of_8 : List ℕ → ℕ → ℕ
number_of_8 bytes at =
    from_le_bytes w64
    (slice_index bytes at ∷ slice_index bytes (at + 1) ∷ slice_index bytes (at + 2)
    ∷ slice_index bytes (at + 3) ∷ slice_index bytes (at + 4) ∷ slice_index bytes (at + 5)
    ∷ slice_index bytes (at + 6) ∷ slice_index bytes (at + 7) ∷ [])

-- the record in front of these bytes, which has all of its own
abbrev pub front_record : List ℕ → Record
front_record bytes = record {
  kind = slice_index bytes 0;
  sort = slice_index bytes 1;
  device = number_of_2 bytes 2;
  value = number_of_4 bytes 4;
  first = number_of_8 bytes 8;
  second = number_of_8 bytes 16;
}

-- the call in front of these bytes: none where they are fewer than a call's, or of no call
abbrev pub front_call : List ℕ → Option Logged
front_call bytes =
    if nat_lt (length bytes) call_size then None else call_of (front_record bytes)

-- these calls with one in front, where there is one; else none
abbrev pub with_first : Option Logged → List Logged → List Logged
with_first None calls = []
with_first (Some call) calls = call ∷ calls

-- the calls in front of these bytes, up to the first record that is of none, at most so many
abbrev pub front_calls : ℕ → List ℕ → List Logged
front_calls zero bytes = []
front_calls (suc most) bytes =
    with_first (front_call bytes) (front_calls most (drop call_size bytes))

-- the calls read from bytes
abbrev pub calls_from : List ℕ → List Logged
calls_from bytes = front_calls (length bytes / call_size) bytes

-- how many bytes are good: those of the calls that are read from them
abbrev pub good_bytes : List ℕ → ℕ
good_bytes bytes = call_size * length (calls_from bytes)
