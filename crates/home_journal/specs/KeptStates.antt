-- The states of a home that a journal's file keeps.
use Rattle.home_journal.specs.Slots.{body_size, slot_state}
use Rattle.home_types.specs.declared.kinds.Kind.{Kind}
use Rattle.home_types.specs.declared.worlds.Stand.{Stand}
use Rattle.slot_disks.specs.Slots.{open_slots}
use Rattle.std.specs.Prelude.{Err, List, None, Ok, Option, Result, Some, [], length, ℕ, ◌+◌, ◌∷◌}

-- these states with one in front, where there is one; else the slot with this place, counted from
-- 0, is not good
abbrev pub with_first : ℕ → Option (List Stand) → Result (List (List Stand)) ℕ
    → Result (List (List Stand)) ℕ
with_first k None rest = Err k
with_first k (Some home) (Ok homes) = Ok (home ∷ homes)
with_first k (Some home) (Err bad) = Err bad

-- the states that these slots tell, the first of them with this place; or the place of the first
-- that is not good
abbrev pub states_from : List Kind → ℕ → List (List ℕ) → Result (List (List Stand)) ℕ
states_from kinds k [] = Ok []
states_from kinds k (body ∷ bodies) =
    with_first k (slot_state kinds (k + 1) body) (states_from kinds (k + 1) bodies)

-- the states that a file keeps for a script with at most so many windows; where it is damaged, the
-- place of the first slot that is not good
abbrev pub kept_states : List Kind → ℕ → List ℕ → Result (List (List Stand)) ℕ
kept_states kinds most bytes =
    states_from kinds 0 (open_slots (body_size (length kinds)) most bytes)
