-- Where a run joins: the room that the window needs.
use Rattle.hub_core.proofs.Prelude.{List, Run, Some, [], ap, arith, length, length-append, map, most_entries, most_items, option_map, plain_run, refl, same_Some, slice_get, slice_get-map, sym, ℕ, ◌++◌, ◌+◌, ◌∙◌, ◌∷◌, ◌≡◌, ◌≤◌}
use Rattle.command_rules.specs.declared.rosters.RosterRun.{RosterRun}

pub joined_entries : (runs : List Run) (q : Run) (devices rounds spare so_far : ℕ) → most_entries (length runs) devices rounds ≤ spare + so_far → most_entries (length (runs ++ q ∷ [])) devices rounds ≤ (spare + 132) + so_far
joined_entries runs q devices rounds spare so_far room = let long = length-append runs (q ∷ []) in rw long (omega (arith, room))

pub joined_items : (runs : List Run) (q : Run) (devices rounds spare so_far : ℕ) → most_items (length runs) devices rounds ≤ spare + so_far → most_items (length (runs ++ q ∷ [])) devices rounds ≤ (spare + 1) + so_far
joined_items runs q devices rounds spare so_far room = let long = length-append runs (q ∷ []) in rw long (omega (arith, room))

-- The run in the roster

-- the run that joined is the last one
last_joined : (items : List RosterRun) (runs : List Run) (q : Run) → map plain_run items ≡ runs ++ q ∷ [] → option_map plain_run (slice_get items (length runs)) ≡ Some q
last_joined items runs q same = sym (slice_get-map plain_run items (length runs)) ∙ ap (λ xs. slice_get xs (length runs)) same ∙ at_end runs q
  where
    at_end : (runs : List Run) (q : Run) → slice_get (runs ++ q ∷ []) (length runs) ≡ Some q
    at_end [] q = refl
    at_end (x ∷ runs) q = at_end runs q

-- .. as it is read there
pub last_is : (items : List RosterRun) (runs : List Run) (q : Run) (x : RosterRun) → map plain_run items ≡ runs ++ q ∷ [] → slice_get items (length runs) ≡ Some x → plain_run x ≡ q
last_is items runs q x same at = same_Some (plain_run x) q (ap (option_map plain_run) (sym at) ∙ last_joined items runs q same)
