use Rattle.home_journal.proofs.states.fill_slot.Given as goal
use Rattle.home_journal.proofs.Prelude.{All, flat_map, length, stand_bytes, take, to_le_bytes, vec_capacity, w16, w32, ◌*◌, ◌++◌, ◌+◌, ◌<◌, ◌^◌, ◌≡◌, ◌≤◌}

abbrev pub invariant-devices : goal.invariant-devices
invariant-devices l =
    (l.slot.items
    ≡ to_le_bytes w32 l.number
    ++ to_le_bytes w16 (length l.home)
    ++ flat_map stand_bytes (take l.stand-index l.home))
    × (length l.slot.items ≡ 6 + 5 * l.stand-index)
    × (vec_capacity l.fn.slot ≤ vec_capacity l.slot)
    × All (λ s. s.value < 2 ^ 32) (take l.stand-index l.home)
