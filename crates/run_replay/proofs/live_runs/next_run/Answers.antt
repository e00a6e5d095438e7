use Rattle.run_replay.proofs.LiveRuns.{front, passed_over}
use Rattle.blocked_runs.proofs.Cited.{has_without}
use Rattle.run_replay.proofs.live_runs.next_run.Goals as goal
use Rattle.run_replay.proofs.Prelude.{rules, sym, ◌<◌, ◌^◌, ◌∙◌}

pub returns-clause-passed : goal.returns-clause-passed
returns-clause-passed c q low high =
    let small : c.args.blocked < 2 ^ 64 = search rules in
    passed_over _ _ (sym (has_without c.args.live c.args.blocked q small) ∙ c.first_from.ensures.none q low high)

pub returns-clause-live : goal.returns-clause-live
returns-clause-live c low =
    let small : c.args.blocked < 2 ^ 64 = search rules in
    front _ _ (sym (has_without c.args.live c.args.blocked c.first_from.result small) ∙ c.first_from.ensures.found low)
