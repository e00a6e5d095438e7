-- Where an event of a device stands in the line, and which run its failure loses: as the accesses
-- to the device, the line and the history's dooms tell.
use Rattle.history_book.specs.Books.{doom_of}
use Rattle.history_book.specs.declared.entries.Kept.{Kept}
use Rattle.home_types.specs.Numbers.{LinePlace}
use Rattle.home_types.specs.declared.commands.View.TheVariants.{Down, Up}
use Rattle.home_types.specs.declared.commands.View.{View}
use Rattle.home_types.specs.declared.items.Item.TheVariants.{Ran}
use Rattle.home_types.specs.declared.numbers.RunNo.{RunNo}
use Rattle.lineage_table.specs.Accesses.{is_acquired, is_scheduled}
use Rattle.lineage_table.specs.declared.accesses.Access.{Access}
use Rattle.serial_line.specs.Marks.{Mark, place_of}
use Rattle.std.specs.Prelude.{Bool, List, None, Option, Some, false, find, is_none, length, option_map, true, unwrap_or, ◌&&◌, ◌==◌, ◌||◌}

-- the history does not doom the run of the access
abbrev pub is_sound : List Kept → Access → Bool
is_sound history x = is_none (doom_of history x.run.0)

-- The place of an event

-- the access is that of this run
abbrev pub is_access_of : Option RunNo → Access → Bool
is_access_of run x = unwrap_or (option_map (λ q. q.0 == x.run.0) run) false

-- the run has not touched the device: it has no answer there, or is the one whose first access has
-- just died; and it is not doomed
abbrev pub waits : List Kept → Option RunNo → Access → Bool
waits history first x = (is_scheduled x.status || is_access_of first x) && is_sound history x

-- the first such run
abbrev pub first_waiting : List Kept → Option RunNo → List Access → Option RunNo
first_waiting history first accesses = option_map (λ x. x.run) (find (waits history first) accesses)

-- the place of this run, the end of the line where there is none
abbrev pub place_or_end : Option RunNo → List Mark → LinePlace
place_or_end None line = length line
place_or_end (Some r) line = unwrap_or (place_of (Ran r) line) (length line)

-- immediately before the first run that waits, else at the end
abbrev pub event_place : List Kept → Option RunNo → List Access → List Mark → LinePlace
event_place history first accesses line = place_or_end (first_waiting history first accesses) line

-- The run that is lost

abbrev pub is_up_view : View → Bool
is_up_view Up = true
is_up_view Down = false

-- the run sees the device up, is not done with it, and is not doomed
abbrev pub is_lost : List Kept → Access → Bool
is_lost history x =
    is_acquired x.status && unwrap_or (option_map is_up_view x.view) false && is_sound history x

-- the first such run
abbrev pub lost_run : List Kept → List Access → Option RunNo
lost_run history accesses = option_map (λ x. x.run) (find (is_lost history) accesses)
