use Rattle.routine_reader.proofs.commands.given_members.Given as goal
use Rattle.routine_reader.proofs.Prelude.{Entry, List, command_form, given_in, given_of, knows, list_all, members_view, names_of, true, ◌++◌, ◌≡◌}

-- the members so far are those of a command of this version, and are kept
abbrev pub invariant-members : goal.invariant-members
invariant-members l =
    (done : List Entry) × (l.members.entries ≡ done ++ l.name-iterator)
    × (list_all (knows (command_form l.version)) (names_of (members_view done)) ≡ true)
    × (given_of l.given ≡ given_in (members_view done))
