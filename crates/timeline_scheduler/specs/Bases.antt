-- The items that must stand before a run, as line, history and roster tell them.
use Rattle.command_rules.specs.Rosters.{Run, commands_of, follows, touches}
use Rattle.history_book.specs.Books.{answer_count, end_of}
use Rattle.history_book.specs.declared.entries.End.TheVariants.{Aborted, Committed}
use Rattle.history_book.specs.declared.entries.End.{End}
use Rattle.history_book.specs.declared.entries.Kept.{Kept}
use Rattle.command_rules.specs.Items.{of_run}
use Rattle.home_types.specs.Numbers.{RunId}
use Rattle.home_types.specs.declared.commands.Command.{Command}
use Rattle.serial_line.specs.Marks.{Mark, is_open_run}
use Rattle.std.specs.FinSet as set
use Rattle.std.specs.List.{list_any}
use Rattle.std.specs.Prelude.{Bool, List, None, Option, Some, [], false, if◌then◌else◌, map, option_map, slice_get, true, unwrap_or, ◌||◌, ◌∷◌}

-- the first command of x without an answer is on a device of r
abbrev pub goes_on : List Kept → List Run → RunId → RunId → Bool
goes_on history runs r x =
    unwrap_or (option_map (λ (c : Command). touches runs r c.device.0)
    (slice_get (commands_of runs x) (answer_count history x))) false

-- that is so of x, which has not ended, or r follows it, which has committed
abbrev pub run_binds : List Kept → List Run → RunId → RunId → Bool
run_binds history runs r x = by_end (end_of history x)
  where
    by_end : Option End → Bool
    by_end None = goes_on history runs r x
    by_end (Some Committed) = follows runs r x
    by_end (Some (Aborted cause)) = false

-- the item has touched a device of r, or is such a run
abbrev pub is_needed : List Kept → List Run → RunId → Mark → Bool
is_needed history runs r m =
    list_any (λ (c : Command). set.contains m.touched c.device.0) (commands_of runs r)
    || of_run (run_binds history runs r) m.item

-- each item before the first run that has not ended, and from there on those that must stand before
-- r
abbrev pub seeds : List Kept → List Run → RunId → List Mark → List Bool
seeds history runs r [] = []
seeds history runs r (m ∷ ms) =
    if is_open_run m then map (is_needed history runs r) (m ∷ ms)
    else true ∷ seeds history runs r ms
