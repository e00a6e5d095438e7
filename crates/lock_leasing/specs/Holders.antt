-- What the accesses to a device, and the history's dooms, tell of the runs that hold it or wrote
-- it.
use Rattle.history_book.specs.Books.{doom_of}
use Rattle.history_book.specs.declared.entries.Kept.{Kept}
use Rattle.home_types.specs.Commands.{reads}
use Rattle.home_types.specs.Numbers.{RunId}
use Rattle.home_types.specs.declared.commands.Command.{Command}
use Rattle.home_types.specs.declared.commands.View.TheVariants.{Down, Up}
use Rattle.home_types.specs.declared.commands.View.{View}
use Rattle.home_types.specs.declared.numbers.RunNo.{RunNo}
use Rattle.lineage_table.specs.Accesses.{access_of, effective_writer, first_before, is_released}
use Rattle.lineage_table.specs.declared.accesses.Access.{Access}
use Rattle.std.specs.Prelude.{Bool, List, None, Option, false, if◌then◌else◌, is_none, is_some, not, option_map, true, unwrap_or, ◌&&◌, ◌==◌}

abbrev pub is_writer : Option RunNo → Access → Bool
is_writer writer x = unwrap_or (option_map (λ q. q.0 == x.run.0) writer) false

-- a doomed run holds the device where it is the effective writer, another where it is not done with
-- it
abbrev pub access_holds : List Kept → Option RunNo → Access → Bool
access_holds history writer x =
    if is_some (doom_of history x.run.0) then is_writer writer x else not (is_released x.status)

-- the first run before r that holds the device
abbrev pub holder_before : List Kept → RunId → List Access → Option RunNo
holder_before history r accesses =
    first_before (access_holds history (effective_writer accesses)) r accesses

-- the effective writer, where it stands before r
abbrev pub writer_before : RunId → List Access → Option RunNo
writer_before r accesses = first_before (is_writer (effective_writer accesses)) r accesses

abbrev pub is_down_view : View → Bool
is_down_view Up = false
is_down_view Down = true

-- the run of the access sees the device down
abbrev pub sees_it_down : Access → Bool
sees_it_down x = unwrap_or (option_map is_down_view x.view) false

-- a read of the run finds the value at its place, and not one that it wrote, nor a device that it
-- sees down
abbrev pub reads_its_place : Access → Bool
reads_its_place x = not (sees_it_down x) && is_none x.wrote

-- the effective writer before r, whose write the command of r would read
abbrev pub dirty_writer : Command → RunId → List Access → Option RunNo
dirty_writer c r accesses =
    if reads c.job && unwrap_or (option_map reads_its_place (access_of r accesses)) false
    then writer_before r accesses else None
