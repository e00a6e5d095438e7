-- What was published of a watched day.
use Rattle.hub_commands.specs.Boards.{publishings_of}
use Rattle.hub_commands.specs.declared.finishes.Day.{Day}
use Rattle.status_board.specs.declared.day_counts.Counts.{Counts}
use Rattle.std.specs.Prelude.{List, Option, Some, ◌≡◌}

-- the counts after each window of the day that is handed back, in order, and then the last of
-- these, zeros where there is none, as over
pub record IsPublished {D : Type 0} (list : List Counts) (o : Option (Day D)) : Type 0 where
  pub day : Day D
  pub given : o ≡ Some day
  pub published : list ≡ publishings_of day.windows.items
