use Rattle.order_checker.proofs.order_lines.OrderReader.all_stand.Given as goal
use Rattle.order_checker.proofs.Prelude.{drop, next_stands, plain_ends, walk, ◌≡◌}

-- the committed runs so far stand among the items
abbrev pub invariant-ends : goal.invariant-ends
invariant-ends l =
    walk (next_stands l.items) 0 (plain_ends l.self.ends.now) ≡ walk (next_stands l.items) l.i (drop l.i (plain_ends l.self.ends.now))
