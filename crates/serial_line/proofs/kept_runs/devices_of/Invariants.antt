use Rattle.serial_line.proofs.Prelude.{drop, is_on, list_any, ℕ, ◌||◌, ◌≡◌}
use Rattle.serial_line.proofs.kept_runs.devices_of.Given as goal
use Rattle.std.specs.FinSet as set

-- the devices of the commands so far, and of those that are left, are those of all
abbrev pub invariant-commands : goal.invariant-commands
invariant-commands l = (d : ℕ) → (set.contains l.devices d || list_any (is_on d) (drop l.command-index l.commands)) ≡ list_any (is_on d) l.commands
