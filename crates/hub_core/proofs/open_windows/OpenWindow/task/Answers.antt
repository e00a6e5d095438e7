use Rattle.hub_core.proofs.open_windows.OpenWindow.task.Goals as goal

pub command_task-requires-clause-run : goal.command_task-requires-clause-run
command_task-requires-clause-run g c = (c.requires.command c.in-Commands.k c.in-Commands.is).0

pub command_task-requires-clause-command : goal.command_task-requires-clause-command
command_task-requires-clause-command g c = (c.requires.command c.in-Commands.k c.in-Commands.is).1
