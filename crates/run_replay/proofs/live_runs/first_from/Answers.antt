use Rattle.run_replay.proofs.LiveRuns.{first_found, first_passed, none_from}
use Rattle.run_replay.proofs.live_runs.first_from.Goals as goal
use Rattle.run_replay.proofs.Prelude.{arith, common_steps, rules, ◌-◌, ◌/◌, ◌<◌, ◌^◌, ◌≡◌, ◌≢◌}

pub returns-then-rest-eq0-clause-none : goal.returns-then-rest-eq0-clause-none
returns-then-rest-eq0-clause-none c q low high =
    let gone : c.args.word / 2 ^ (c.args.from - 1) ≡ 0 = grind (arith, common_steps) in
    none_from c.args.word c.args.from c.requires.run gone q low

pub returns-clause-none : goal.returns-clause-none
returns-clause-none c q low high =
    let small : c.args.word < 2 ^ 64 = search rules in
    let some : c.args.word / 2 ^ (c.args.from - 1) ≢ 0 = grind (arith, common_steps) in
    first_passed c.args.word c.args.from c.requires.run small some q low high

pub returns-clause-found : goal.returns-clause-found
returns-clause-found c low =
    let small : c.args.word < 2 ^ 64 = search rules in
    let some : c.args.word / 2 ^ (c.args.from - 1) ≢ 0 = grind (arith, common_steps) in
    first_found c.args.word c.args.from c.requires.run small some low
