use Rattle.serial_meaning.proofs.Prelude.{runs_of}
use Rattle.serial_meaning.proofs.orders.OrderProgress.serve.Goals as goal

pub returns-in-Failed-clause-done : goal.returns-in-Failed-clause-done
returns-in-Failed-clause-done c = rw c.in-Failed.is (c.fail.ensures.done (runs_of c.args.roster.now) c.args.kinds.now.items c.in-Failed.field-1)

pub returns-in-Back-clause-done : goal.returns-in-Back-clause-done
returns-in-Back-clause-done c = rw c.in-Back.is (c.restart.ensures.done (runs_of c.args.roster.now) c.args.kinds.now.items c.in-Back.field-1)
