-- What is published of a day, and the line of it.
use Rattle.atomic_table.specs.Seated.{TableId}
use Rattle.day_report.specs.Days.{abort_count, commit_count}
use Rattle.history_book.specs.declared.records.WindowRecord.{WindowRecord}
use Rattle.status_board.specs.Publishings.{last_of}
use Rattle.status_board.specs.Sights.{Sight}
use Rattle.status_board.specs.declared.day_counts.Counts.{Counts}
use Rattle.std.specs.Fmt.{decimal}
use Rattle.std.specs.Prelude.{List, None, Option, Some, [], codes, false, length, true, ℕ, ◌+◌, ◌++◌, ◌∷◌, ◌≡◌}

-- what a day has come to with these windows; every run of a closed window has ended
abbrev pub counts_of : List WindowRecord → Counts
counts_of records = record {
  windows = length records;
  runs = commit_count records + abort_count records;
  committed = commit_count records;
  aborted = abort_count records;
  over = false;
}

-- the counts after each of the later windows, which come behind those before
abbrev pub counts_behind : List WindowRecord → List WindowRecord → List Counts
counts_behind before [] = []
counts_behind before (closed ∷ later) =
    counts_of (before ++ closed ∷ []) ∷ counts_behind (before ++ closed ∷ []) later

-- the counts after each of these windows, in order
abbrev pub counts_each : List WindowRecord → List Counts
counts_each records = counts_behind [] records

-- the same counts, of a day that is over
abbrev pub as_over : Counts → Counts
as_over c = record c { over = true }

-- what is published of a day with these windows: the counts after each, and then the last of these,
-- zeros where there is none, as over
abbrev pub publishings_of : List WindowRecord → List Counts
publishings_of records = counts_each records ++ as_over (last_of (counts_each records)) ∷ []

-- the line of these counts
unfoldable pub board_line : Counts → List ℕ
board_line c =
    codes "board windows " ++ decimal c.windows ++ codes " runs " ++ decimal c.runs
    ++ codes " committed " ++ decimal c.committed
    ++ codes " aborted " ++ decimal c.aborted ++ codes "\n"

-- the line of a day with these windows: its numbers are those of the total
abbrev pub board_text : List WindowRecord → List ℕ
board_text records = board_line (counts_of records)

-- what it was told, where it tells that, are the counts after each of these windows
abbrev pub IsToldOf : Option (List Counts) → List WindowRecord → Type 0
IsToldOf None records = Unit {0}
IsToldOf (Some list) records = list ≡ counts_each records

-- one window more was closed than it was told of
pub record HasOneMore (told : Option (List Counts)) (records : List WindowRecord) : Type 0 where
  pub before : List WindowRecord
  pub closed : WindowRecord
  pub more : records ≡ before ++ closed ∷ []
  pub told_of : IsToldOf told before

-- the publisher is the board's, knows the last counts, and nothing is over yet
pub record IsPosting (board : TableId) (publisher : Sight) (last : Counts) : Type 0 where
  pub own : publisher.board ≡ board
  pub last_is : last ≡ last_of publisher.list
  pub going : last.over ≡ false
  pub sum : last.runs ≡ last.committed + last.aborted
