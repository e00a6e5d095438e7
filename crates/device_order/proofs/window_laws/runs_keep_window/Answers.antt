use Rattle.device_order.proofs.window_laws.runs_keep_window.Goals as goal
use Rattle.device_order.proofs.WindowRuns.{run_commits, run_doomed, run_leaves_line, run_placed}

pub returns-clause-placed : goal.returns-clause-placed
returns-clause-placed c = run_placed

pub returns-clause-doomed : goal.returns-clause-doomed
returns-clause-doomed c = run_doomed

pub returns-clause-commits : goal.returns-clause-commits
returns-clause-commits c = run_commits

pub returns-clause-leaves : goal.returns-clause-leaves
returns-clause-leaves c = run_leaves_line
