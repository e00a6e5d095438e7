use Rattle.order_checker.proofs.Notes.{split-first, split-whole}
use Rattle.order_checker.proofs.lines.cut_line.Goals as goal
use Rattle.order_checker.proofs.Prelude.{None, Some, position, rules, ◌==◌, ◌≡◌}

pub returns-in_err-end-clause-last : goal.returns-in_err-end-clause-last
returns-in_err-end-clause-last c =
    let none : position (λ b. b == 10) c.args.text.now ≡ None = search rules in
    let whole = split-whole 10 c.args.text.now none in
    search rules

pub returns-clause-pieces : goal.returns-clause-pieces
returns-clause-pieces c =
    let at : position (λ b. b == 10) c.args.text.now ≡ Some c.in_ok-end.end = search rules in
    split-first 10 c.args.text.now c.in_ok-end.end at
