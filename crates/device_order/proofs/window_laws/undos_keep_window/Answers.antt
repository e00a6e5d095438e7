use Rattle.device_order.proofs.window_laws.undos_keep_window.Goals as goal
use Rattle.device_order.proofs.WindowGrips.{undo_answered, undo_died, undo_dropped, undo_out}

pub returns-clause-out : goal.returns-clause-out
returns-clause-out c = undo_out

pub returns-clause-answered : goal.returns-clause-answered
returns-clause-answered c = undo_answered

pub returns-clause-died : goal.returns-clause-died
returns-clause-died c = undo_died

pub returns-clause-dropped : goal.returns-clause-dropped
returns-clause-dropped c = undo_dropped
