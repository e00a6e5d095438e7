use Rattle.device_order.proofs.window_laws.commands_keep_window.Goals as goal
use Rattle.device_order.proofs.WindowAnswers.{access_died, down_answered, read_answered, skip_answered, write_answered}
use Rattle.device_order.proofs.WindowGrips.{command_out}

pub returns-clause-out : goal.returns-clause-out
returns-clause-out c = command_out

pub returns-clause-write : goal.returns-clause-write
returns-clause-write c = write_answered

pub returns-clause-read : goal.returns-clause-read
returns-clause-read c = read_answered

pub returns-clause-died : goal.returns-clause-died
returns-clause-died c = access_died

pub returns-clause-down : goal.returns-clause-down
returns-clause-down c = down_answered

pub returns-clause-skipped : goal.returns-clause-skipped
returns-clause-skipped c = skip_answered
