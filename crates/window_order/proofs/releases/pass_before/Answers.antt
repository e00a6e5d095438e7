use Rattle.window_order.proofs.NotedAnswers.{acquired_now, lineage_set}
use Rattle.window_order.proofs.PassedRuns.{passed_all, passed_one, passes_run}
use Rattle.window_order.proofs.releases.pass_before.Goals as goal
use Rattle.window_order.proofs.Prelude.{Down, LineageState, accesses_at, acquired, ap, arith, length, lineage_at, status_of, sym, ◌<◌, ◌∙◌}

pub acquire-requires-clause-scheduled : goal.acquire-requires-clause-scheduled
acquire-requires-clause-scheduled c = (passes_run c.args.r.0 c.in-Some.doomed (lineage_at c.passing.table c.args.d.0) c.scheduled_before.ensures.disciplined c.passing.invariant.waiting (sym c.scheduled_before.ensures.found ∙ c.in-Some.is)).first.scheduled

pub acquire-requires-clause-first : goal.acquire-requires-clause-first
acquire-requires-clause-first c = (passes_run c.args.r.0 c.in-Some.doomed (lineage_at c.passing.table c.args.d.0) c.scheduled_before.ensures.disciplined c.passing.invariant.waiting (sym c.scheduled_before.ensures.found ∙ c.in-Some.is)).first.none_before

pub release-requires-clause-acquired : goal.release-requires-clause-acquired
release-requires-clause-acquired c =
    let below : c.args.d.0 < length c.passing.table = omega (arith, c.requires.device, c.passing.invariant.devices) in
    ap (λ t. status_of c.in-Some.doomed.0 (accesses_at t c.args.d.0)) c.acquire.ensures
    ∙ ap (λ (s : LineageState). status_of c.in-Some.doomed.0 s.accesses) (lineage_set c.passing.table c.args.d.0 (acquired c.in-Some.doomed.0 Down) below)
    ∙ acquired_now c.in-Some.doomed.0 Down (lineage_at c.passing.table c.args.d.0) (passes_run c.args.r.0 c.in-Some.doomed (lineage_at c.passing.table c.args.d.0) c.scheduled_before.ensures.disciplined c.passing.invariant.waiting (sym c.scheduled_before.ensures.found ∙ c.in-Some.is)).first.scheduled

pub passing-smaller : goal.passing-smaller
passing-smaller c =
    let below : c.args.d.0 < length c.passing.table = omega (arith, c.requires.device, c.passing.invariant.devices) in
    (passed_one c.args.r.0 c.in-Some.doomed.0 c.args.d.0 c.passing.table c.acquire.new.self c.release.new.self below
    (passes_run c.args.r.0 c.in-Some.doomed (lineage_at c.passing.table c.args.d.0) c.scheduled_before.ensures.disciplined c.passing.invariant.waiting (sym c.scheduled_before.ensures.found ∙ c.in-Some.is)) c.acquire.ensures c.release.ensures).fewer

pub passing-preserved : goal.passing-preserved
passing-preserved c =
    let below : c.args.d.0 < length c.passing.table = omega (arith, c.requires.device, c.passing.invariant.devices) in
    let one = (passed_one c.args.r.0 c.in-Some.doomed.0 c.args.d.0 c.passing.table c.acquire.new.self c.release.new.self below
    (passes_run c.args.r.0 c.in-Some.doomed (lineage_at c.passing.table c.args.d.0) c.scheduled_before.ensures.disciplined c.passing.invariant.waiting (sym c.scheduled_before.ensures.found ∙ c.in-Some.is)) c.acquire.ensures c.release.ensures) in
    record { devices = one.devices ∙ c.passing.invariant.devices; same = one.same ∙ c.passing.invariant.same; waiting = one.waiting }

pub returns-clause-passed : goal.returns-clause-passed
returns-clause-passed c = (passed_all c.args.r.0 c.args.d.0 c.args.table.now c.passing.table c.passing.invariant.same c.passing.invariant.waiting (sym c.scheduled_before.ensures.found ∙ c.in_default.is)).is

pub returns-clause-first : goal.returns-clause-first
returns-clause-first c = (passed_all c.args.r.0 c.args.d.0 c.args.table.now c.passing.table c.passing.invariant.same c.passing.invariant.waiting (sym c.scheduled_before.ensures.found ∙ c.in_default.is)).ready
