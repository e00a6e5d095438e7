use Rattle.room_hubs.proofs.told_windows.push_history.Given as goal
use Rattle.room_hubs.proofs.Prelude.{map, plain_room, take, told_kept, ◌++◌, ◌≡◌}

abbrev pub invariant-entries : goal.invariant-entries
invariant-entries l = l.history.items ≡ l.initial.history.items ++ map (told_kept (plain_room l.roster)) (take l.kept-index l.entries)
