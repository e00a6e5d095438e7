use Rattle.run_replay.proofs.LiveRuns.{with_others, with_own}
use Rattle.run_replay.proofs.live_runs.with_run.Goals as goal

pub returns-clause-others : goal.returns-clause-others
returns-clause-others c q other = with_others c.args.word c.bit_of.result c.args.r q c.bit_of.ensures.only other

pub returns-clause-own : goal.returns-clause-own
returns-clause-own c some low = with_own c.args.word c.bit_of.result c.args.r (c.bit_of.ensures.own some low)
