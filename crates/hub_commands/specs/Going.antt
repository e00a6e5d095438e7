-- A day that goes on: what was played of it, and what the sink got.
use Rattle.command_words.specs.declared.command_lines.Options.{Options}
use Rattle.day_report.specs.Days.{abort_count, commit_count, head_text}
use Rattle.device_states.specs.Devices.{Shown}
use Rattle.history_book.specs.declared.records.WindowRecord.{WindowRecord}
use Rattle.home_types.specs.Listed.{Listed}
use Rattle.home_types.specs.declared.modes.Mode.{Mode}
use Rattle.hub_commands.specs.Boards.{HasOneMore, IsToldOf}
use Rattle.hub_commands.specs.Days.{DayCourse, IsUnderWayOn, course_behind, plain, script_of, text_on}
use Rattle.hub_commands.specs.Finishes.{DayEndsOn, Writes, written}
use Rattle.hub_commands.specs.Played.{HasGoneOn}
use Rattle.hub_commands.specs.Statuses.{status_for_fault}
use Rattle.hub_commands.specs.Ways.{WindowWay}
use Rattle.hub_commands.specs.declared.faults.Fault.{Fault}
use Rattle.hub_commands.specs.declared.finishes.Day.{Day}
use Rattle.hub_commands.specs.declared.finishes.Finish.{Finish}
use Rattle.hub_commands.specs.declared.plays.DayUnderWay.{DayUnderWay}
use Rattle.hub_commands.specs.declared.plays.UntoldDay.{UntoldDay}
use Rattle.hub_core.specs.Homes.{HomeState}
use Rattle.routine_reader.specs.declared.scripts.Script.{Script}
use Rattle.status_board.specs.declared.day_counts.Counts.{Counts}
use Rattle.std.specs.Io.KnownBytes.{Appends}
use Rattle.std.specs.Prelude.{Err, IfOk, List, Ok, Option, Result, Some, [], length, suc, ℕ, ◌+◌, ◌++◌, ◌<◌, ◌^◌, ◌∷◌, ◌≡◌}

-- the home is under way, and the sink got the texts so far
pub record IsGoingOn {D : Type 0} (works : WindowWay) (shows : D → Shown) (course : DayCourse)
    (options : Options) (sink : Writes) (home : HomeState D)
    (records : List WindowRecord) : Type 0 where
  pub under_way : IsUnderWayOn works shows course options.mode home records
  pub text : Appends sink.held sink.holds (text_on course options.mode options.trace records)
  pub calm : sink.faults_after ≡ sink.faults

-- the next window behind so many of the script was played, on any course that has come there
abbrev pub PlaysOneMore : {D : Type 0} → WindowWay → (D → Shown) → Script → ℕ → Mode → DayUnderWay D
    → UntoldDay D → Type 0
PlaysOneMore works shows script before mode day next =
    (course : DayCourse) → IsUnderWayOn works shows
    (course_behind script before course) mode day.home day.windows.items → HasGoneOn works shows
    (course_behind script before course) mode day.windows.items next.home next.windows.items

-- this record is the last of these
abbrev pub IsLastOf : WindowRecord → List WindowRecord → Type 0
IsLastOf closed records = (earlier : List WindowRecord) × (records ≡ earlier ++ closed ∷ [])

-- what came of the next window: the day has gone on by it, or memory was wanted
abbrev pub NextIs : {D : Type 0} → WindowWay → (D → Shown) → DayCourse → Mode → List WindowRecord
    → Result (UntoldDay D) (Listed WindowRecord) → Type 0
NextIs works shows course mode records (Ok day) =
    HasGoneOn works shows course mode records day.home day.windows.items
NextIs works shows course mode records (Err windows) = windows.items ≡ records

-- the day goes on with so many windows, or it has ended
abbrev pub GoesOnOrEnds : {D : Type 0} → WindowWay → (D → Shown) → DayCourse → Options → Writes → ℕ
    → Result (DayUnderWay D) (Finish D) → Type 0
GoesOnOrEnds works shows course options sink count (Ok day) =
    (length day.windows.items ≡ count)
    × IsGoingOn works shows course options sink day.home day.windows.items
GoesOnOrEnds works shows course options sink count (Err finish) =
    (finish.status ≡ status_for_fault finish.fault)
    × DayEndsOn works shows plain course options sink finish.day finish.fault

-- a day of any course that begins on the home goes on with the head and the lines below it, or it
-- has ended
abbrev pub DayHasBegun : {D M : Type 0} → WindowWay → (D → Shown) → Options → Writes → HomeState D
    → Result (List ℕ) M → Result (DayUnderWay D) (Finish D) → Type 0
DayHasBegun works shows options sink home head result =
    (course : DayCourse) → IsUnderWayOn works shows course options.mode home []
    → IfOk head (λ bytes. bytes ≡ head_text options.mode ++ course.above)
    → GoesOnOrEnds works shows course options sink 0 result

-- what came of the next window was written, on any course behind so many windows of the script,
-- whatever the sink held as the day began: with the lines of the window the day goes on, or it has
-- ended
abbrev pub HasWritten : {D : Type 0} → WindowWay → (D → Shown) → Script → ℕ → Options → Writes
    → Result (UntoldDay D) (Listed WindowRecord) → Result (DayUnderWay D) (Finish D) → Type 0
HasWritten {D} works shows script before options sink next result =
    (course : DayCourse) (held : Option (List ℕ)) (f : ℕ) (home : HomeState D)
    (records : List WindowRecord) → IsGoingOn works shows
    (course_behind script before course) options (written held sink.held f sink.faults) home records
    → NextIs works shows (course_behind script before course) options.mode records next
    → GoesOnOrEnds works shows (course_behind script before course) options
    (written held sink.holds f sink.faults_after) (suc (length records)) result

-- the day ended behind its last window, on any course, whatever the sink held as it began
abbrev pub HasEnded : {D : Type 0} → WindowWay → (D → Shown) → Options → Writes → DayUnderWay D
    → Option (Day D) → Option Fault → Type 0
HasEnded works shows options sink last day fault =
    (course : DayCourse) (held : Option (List ℕ)) (f : ℕ) → IsGoingOn works shows course options
    (written held sink.held f sink.faults) last.home last.windows.items
    → length last.windows.items ≡ length (script_of course).windows.items → DayEndsOn works shows
    plain course options (written held sink.holds f sink.faults_after) day fault

-- Which windows are handed back, and who is told of them

-- the windows that were closed so far
abbrev pub windows_in : {D : Type 0} → Result (UntoldDay D) (Listed WindowRecord)
    → List WindowRecord
windows_in (Ok day) = day.windows.items
windows_in (Err windows) = windows.items

-- a day is handed back, with these windows
abbrev pub HandsBack : {D : Type 0} → Option (Day D) → List WindowRecord → Type 0
HandsBack {D} o records = (day : Day D) × (o ≡ Some day) × (day.windows.items ≡ records)

-- the day goes on with these windows, or ends with them
abbrev pub KeepsWindows : {D : Type 0} → Result (DayUnderWay D) (Finish D)
    → List WindowRecord → Type 0
KeepsWindows (Ok day) records = day.windows.items ≡ records
KeepsWindows (Err finish) records = HandsBack finish.day records

-- where the next window was played it is one more than who looks on was told of, and their runs can
-- be counted; else the windows are those
abbrev pub IsNextToTell : {D : Type 0} → Option (List Counts)
    → Result (UntoldDay D) (Listed WindowRecord) → Type 0
IsNextToTell told (Ok day) =
    HasOneMore told day.windows.items
    × (commit_count day.windows.items + abort_count day.windows.items < 2 ^ 64)
IsNextToTell told (Err windows) = IsToldOf told windows.items

-- who looks on was told of the windows that are handed back
pub record IsToldOfDay {D : Type 0} (told : Option (List Counts))
    (o : Option (Day D)) : Type 0 where
  pub day : Day D
  pub given : o ≡ Some day
  pub told_of : IsToldOf told day.windows.items
