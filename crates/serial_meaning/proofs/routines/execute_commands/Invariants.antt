use Rattle.serial_meaning.proofs.Prelude.{drop, execute, execution_of, fold, length, routine_execution, ◌≡◌}
use Rattle.serial_meaning.proofs.routines.execute_commands.Given as goal

-- what is still to be done gives the whole
abbrev pub invariant-commands : goal.invariant-commands
invariant-commands l =
    (length l.run.home.items ≡ length l.fn.home.items)
    × (routine_execution l.kinds.items l.commands l.fn.home.items ≡ fold (execute l.kinds.items) (execution_of l.run) (drop l.command-index l.commands))
