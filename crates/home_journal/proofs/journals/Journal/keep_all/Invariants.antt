use Rattle.home_journal.proofs.journals.Journal.keep_all.Given as goal
use Rattle.home_journal.proofs.Prelude.{KeepsFirst, LeavesOnly, List, Ok, Stand, map, states_kept, take, true, ◌++◌, ◌+◌, ◌≡◌, ◌≤◌}

abbrev pub invariant-worlds : goal.invariant-worlds
invariant-worlds g l =
    let first = l.initial.journal in
    let new = map (λ w. w.devices.items) l.worlds.items in
    (l.journal.kinds ≡ first.kinds)
    × (l.journal.most ≡ first.most)
    × (l.journal.kept ≡ first.kept + l.world-index)
    × (g.Q.Disk.faults first.disk ≤ g.Q.Disk.faults l.journal.disk)
    × (g.Q.Disk.told ≡ true
    → (homes : List (List Stand))
    → states_kept g.Q.Disk.seen first ≡ Ok homes
    → (states_kept g.Q.Disk.seen l.journal ≡ Ok (homes ++ take l.world-index new))
    × LeavesOnly g.Q.Disk.moment g.Q.Disk.images_since first.disk l.journal.disk (KeepsFirst first.kinds first.most homes new))
