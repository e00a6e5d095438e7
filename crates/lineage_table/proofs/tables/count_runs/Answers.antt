use Rattle.lineage_table.proofs.Prelude.{List, ap, arith, get_or, get_or-replicate, if◌then◌else◌, is_on, length, list_any, runs_of, runs_on, subst, sym, take, ◌+◌, ◌<◌, ◌∙◌, ◌≡◌, ◌≤◌}
use Rattle.command_rules.specs.declared.rosters.RosterRun.{RosterRun}
use Rattle.home_types.specs.declared.commands.Command.{Command}
use Rattle.lineage_table.proofs.DeviceCounts.{counted_all, few_counted, run_counted}
use Rattle.lineage_table.proofs.tables.count_runs.Goals as goal

pub runs-init : goal.runs-init
runs-init c = λ d low. get_or-replicate 256 d 0 0 low

pub count_run-requires : goal.count_run-requires
count_run-requires c = record {
  room = λ d low.
      let few = few_counted c.args.roster.now c.runs.run-index d in
      let is = c.runs.invariant d low in
      omega (arith, few, is, c.runs-test.true);
}

pub runs-preserved : goal.runs-preserved
runs-preserved c = λ d low.
    let within : c.runs.run-index < length c.args.roster.now.runs.items = subst (λ (xs : List RosterRun). c.runs.run-index < length xs) c.as_slice-run-items.ensures c.runs-test.true in
    let item : c.run-item.result ≡ get_or c.args.roster.now.runs.items c.runs.run-index c.run-item.result = c.run-item.is ∙ ap (λ (xs : List RosterRun). get_or xs c.runs.run-index c.run-item.result) c.as_slice-run-items.ensures in
    c.count_run.ensures d low
    ∙ ap (λ n. n + (if list_any (is_on d) c.as_slice.result.now then 1 else 0)) (c.runs.invariant d low)
    ∙ ap (λ (cs : List Command). runs_on (take c.runs.run-index (runs_of c.args.roster.now)) d + (if list_any (is_on d) cs then 1 else 0)) (c.as_slice.ensures ∙ ap (λ (run : RosterRun). run.routine.commands.items) item)
    ∙ sym (run_counted c.args.roster.now c.runs.run-index d c.run-item.result within)

pub returns : goal.returns
returns c = λ d low. c.runs.invariant d low ∙ counted_all c.args.roster.now c.runs.run-index d (subst (λ (xs : List RosterRun). length xs ≤ c.runs.run-index) c.as_slice-run-items.ensures c.runs-test.false)
