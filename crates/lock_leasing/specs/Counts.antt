-- Places in the line, as the line's touches and the history's ends tell them.
use Rattle.command_rules.specs.Items.{is_ran}
use Rattle.command_rules.specs.Rosters.{Run, followed_by}
use Rattle.history_book.specs.Books.{end_of}
use Rattle.history_book.specs.Readings.{is_committing}
use Rattle.history_book.specs.declared.entries.Kept.{Kept}
use Rattle.home_types.specs.Numbers.{LinePlace, RunId}
use Rattle.home_types.specs.declared.commands.Command.{Command}
use Rattle.home_types.specs.declared.numbers.RunNo.{RunNo}
use Rattle.serial_line.specs.Marks.{Mark, items_of}
use Rattle.command_rules.specs.Searches.{last_place}
use Rattle.std.specs.FinSet as set
use Rattle.std.specs.List.{list_any}
use Rattle.std.specs.Prelude.{Bool, List, None, Option, Some, false, if◌then◌else◌, option_map, unwrap_or, ◌+◌}

-- the number of items up to and with this place, none where there is none
abbrev pub up_to : Option LinePlace → LinePlace
up_to place = unwrap_or (option_map (λ k. k + 1) place) 0

-- up to the last item that has touched a device of these commands
abbrev pub up_to_touched : List Command → List Mark → LinePlace
up_to_touched commands line =
    up_to (last_place (λ m. list_any (λ c. set.contains m.touched c.device.0) commands) line)

-- the run has committed
abbrev pub has_committed : List Kept → RunId → Bool
has_committed history r = unwrap_or (option_map is_committing (end_of history r)) false

-- up to the run
abbrev pub up_to_run : RunId → List Mark → LinePlace
up_to_run r line = up_to (last_place (is_ran r) (items_of line))

-- up to this run, where it has committed
abbrev pub up_to_committed : List Kept → List Mark → Option RunNo → LinePlace
up_to_committed history line None = 0
up_to_committed history line (Some f) = if has_committed history f.0 then up_to_run f.0 line else 0

-- up to the committed run that r follows
abbrev pub up_to_followed : List Run → List Kept → RunId → List Mark → LinePlace
up_to_followed runs history r line = up_to_committed history line (followed_by runs r)
