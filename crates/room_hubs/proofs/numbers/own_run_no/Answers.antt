use Rattle.room_hubs.proofs.Loops.{seen_none, seen_some}
use Rattle.room_hubs.proofs.numbers.own_run_no.Goals as goal
use Rattle.room_hubs.proofs.Prelude.{ap, run_no, sym, ◌+◌, ◌==◌}

pub returns-in-Some : goal.returns-in-Some
returns-in-Some c =
    ap (λ n. run_no (n + 1)) (sym (seen_some (λ r. r.0) (λ n. n == c.args.run.0) c.args.runs.now c.in-Some.place c.in-Some.ensures.place))

pub returns-in-None : goal.returns-in-None
returns-in-None c =
    ap (λ n. run_no (n + 1)) (sym (seen_none (λ r. r.0) (λ n. n == c.args.run.0) c.args.runs.now c.in-None.ensures.place))
