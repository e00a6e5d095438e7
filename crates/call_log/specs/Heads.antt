-- The head of a log, as bytes.
use Rattle.call_log.specs.declared.faults.LogFault.TheVariants.{NotALog, OtherMode, OtherScript, OtherVersion}
use Rattle.call_log.specs.declared.faults.LogFault.{LogFault}
use Rattle.call_log.specs.declared.heads.Head.{Head}
use Rattle.logged_calls.specs.CallBytes.{number_of_2, number_of_4, number_of_8}
use Rattle.std.specs.Int.{to_le_bytes, w16, w32, w64}
use Rattle.std.specs.Prelude.{Bool, List, None, Option, Some, if◌then◌else◌, slice_index, ℕ, ◌%◌, ◌&&◌, ◌*◌, ◌++◌, ◌+◌, ◌/◌, ◌==◌, ◌∷◌}

-- a checksum of the numbers of a head
abbrev pub head_sum : Head → ℕ
head_sum h =
    h.mode * 257 + h.version * 65537 + h.script % 4294967296 * 16777259
    + h.script / 4294967296 * 33554467
    + 255

-- the bytes of a head, as many as a call has; the first of them is that of no call
abbrev pub head_bytes : Head → List ℕ
head_bytes h =
    255 ∷ 0 ∷ (to_le_bytes w16 h.mode
    ++ (to_le_bytes w32 h.version ++ (to_le_bytes w64 h.script ++ to_le_bytes w64 (head_sum h))))

-- the numbers of a head at their places in these bytes
abbrev pub head_in : List ℕ → Head
head_in bytes = record {
  version = number_of_4 bytes 4;
  mode = number_of_2 bytes 2;
  script = number_of_8 bytes 8;
}

-- whether the bytes are those of some head
abbrev pub is_head : List ℕ → Bool
is_head bytes =
    (slice_index bytes 0 == 255)
    && ((slice_index bytes 1 == 0) && (number_of_8 bytes 16 == head_sum (head_in bytes)))

-- what of the second head is not as in the first, where anything is not
abbrev pub head_difference : Head → Head → Option LogFault
head_difference want found =
    if found.version == want.version then
    (if found.mode == want.mode then
    (if found.script == want.script then None else Some OtherScript)
    else Some OtherMode)
    else Some OtherVersion

-- why these bytes are not those of this head; none where they are
abbrev pub head_fault : Head → List ℕ → Option LogFault
head_fault want bytes =
    if is_head bytes then head_difference want (head_in bytes) else Some NotALog
