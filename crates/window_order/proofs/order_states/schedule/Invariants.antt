use Rattle.window_order.proofs.Scheduling.{IsScheduledTo}
use Rattle.window_order.proofs.order_states.schedule.Given as goal
use Rattle.window_order.proofs.Prelude.{drop, items_of}

-- the run has its access on the devices of the commands up to here
abbrev pub invariant-commands : goal.invariant-commands
invariant-commands l = IsScheduledTo l.command-index l.commands l.uses l.r.0 (drop l.at (items_of l.line.marks)) l.done l.initial.table l.table
