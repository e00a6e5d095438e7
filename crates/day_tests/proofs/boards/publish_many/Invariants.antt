use Rattle.day_tests.proofs.boards.publish_many.Given as goal
use Rattle.status_board.specs.Publishings.{last_of}
use Rattle.std.proofs.Common.{false, ◌+◌, ◌<◌, ◌≡◌, ◌≤◌}

-- so many windows were published, and not over before the last
abbrev pub invariant-publishings : goal.invariant-publishings
invariant-publishings g l =
    let last = last_of l.p.list in
    (l.p.board ≡ l.initial.p.board) × (last.windows ≤ l.n) × (last.runs ≤ l.n + l.n) × (last.committed ≤ l.n) × (last.aborted ≤ l.n)
    × (l.n < 100000 → last.over ≡ false)
