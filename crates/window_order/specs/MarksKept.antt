-- What is kept of the line of a window: its items are those of the serialization line, each with
-- the devices that it has touched, and the runs with whether they have ended.
use Rattle.history_book.specs.Readings.{Reading}
use Rattle.lock_leasing.specs.Configurations.{Grips}
use Rattle.lock_leasing.specs.Standings.{has_ended, item_has_touched}
use Rattle.serial_line.specs.Marks.{Mark}
use Rattle.serial_line.specs.Ties.{IsLineOf}
use Rattle.std.specs.Prelude.{List}

-- the marks are those of the line, each with what its item has touched, and whether it is a run
-- that has ended
abbrev pub MarksAreKept : Reading → Grips → List Mark → Type 0
MarksAreKept n g marks = IsLineOf n.line (item_has_touched n g) (has_ended n) marks
