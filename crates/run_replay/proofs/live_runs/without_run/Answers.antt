use Rattle.run_replay.proofs.LiveRuns.{without_one}
use Rattle.run_replay.proofs.live_runs.without_run.Goals as goal
use Rattle.run_replay.proofs.Prelude.{rules, ◌<◌, ◌^◌}

pub returns : goal.returns
returns c q =
    let small : c.bit_of.result < 2 ^ 64 = search rules in
    without_one c.args.word c.bit_of.result c.args.r q small c.bit_of.ensures.only c.bit_of.ensures.own
