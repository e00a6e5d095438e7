use Rattle.order_checker.proofs.SoundRuns.{window-few, window_sound}
use Rattle.order_checker.proofs.windows.read_window.Goals as goal
use Rattle.routine_reader.proofs.Cited.{routines-there}
use Rattle.order_checker.proofs.Prelude.{arith}

pub read_runs-requires-clause-few : goal.read_runs-requires-clause-few
read_runs-requires-clause-few c =
    let few = (window_sound c.args.script.now c.args.before.windows c.args.window.now c.requires.sound c.requires.window).few_runs in
    rw c.as_slice.ensures few

pub read_runs-requires-clause-routines : goal.read_runs-requires-clause-routines
read_runs-requires-clause-routines c =
    let there = routines-there c.args.script.now c.args.before.windows c.args.window.now c.requires.sound c.requires.window in
    rw c.as_slice.ensures there

pub overflow_add-result : goal.overflow_add-result
overflow_add-result c =
    let few = window-few c.args.script.now c.args.before.windows c.args.window.now c.requires.sound c.requires.window in
    omega (arith, few)

pub returns-clause-runs : goal.returns-clause-runs
returns-clause-runs c =
    let few = (window_sound c.args.script.now c.args.before.windows c.args.window.now c.requires.sound c.requires.window).few_runs in
    omega (arith, few, c.requires.runs, c.len.ensures)
