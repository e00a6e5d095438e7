-- How a run ended, as the code has it.
use Rattle.home_types.specs.declared.commands.Answer.{Answer}
use Rattle.order_checker.specs.declared.run_lines.RunEnd.TheVariants.{Aborted, Committed}
use Rattle.order_checker.specs.declared.run_lines.RunEnd.{RunEnd}
use Rattle.std.specs.Prelude.{List, None, Option, Some, map}

-- the answers of a run that is committed, none of one that was aborted
abbrev pub plain_end : RunEnd → Option (List Answer)
plain_end (Committed answers) = Some answers.items
plain_end Aborted = None

-- the same of each run
abbrev pub plain_ends : List RunEnd → List (Option (List Answer))
plain_ends ends = map plain_end ends
