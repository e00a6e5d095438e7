use Rattle.device_order.proofs.window_laws.probes_keep_window.Goals as goal
use Rattle.device_order.proofs.WindowGrips.{device_restarted, probe_died, probe_found_down, probe_found_up, probe_out}
use Rattle.device_order.proofs.WindowRuns.{probe_died_under_run}

pub returns-clause-out : goal.returns-clause-out
returns-clause-out c = probe_out

pub returns-clause-found_up : goal.returns-clause-found_up
returns-clause-found_up c = probe_found_up

pub returns-clause-found_down : goal.returns-clause-found_down
returns-clause-found_down c = probe_found_down

pub returns-clause-died : goal.returns-clause-died
returns-clause-died c = probe_died

pub returns-clause-died_under_run : goal.returns-clause-died_under_run
returns-clause-died_under_run c = probe_died_under_run

pub returns-clause-restarted : goal.returns-clause-restarted
returns-clause-restarted c = device_restarted
