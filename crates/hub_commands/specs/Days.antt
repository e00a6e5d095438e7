-- A day under way: what was played and written of it.
use Rattle.command_rules.specs.Rosters.{is_run}
use Rattle.day_report.specs.Days.{day_text_from, head_text, total_text, window_texts_from}
use Rattle.device_states.specs.Devices.{Shown}
use Rattle.history_book.specs.Histories.{reading}
use Rattle.history_book.specs.Settings.{Setting}
use Rattle.history_book.specs.declared.entries.End.TheVariants.{Committed}
use Rattle.history_book.specs.declared.records.WindowRecord.{WindowRecord}
use Rattle.home_types.specs.HomeStates.{stand_at}
use Rattle.home_types.specs.Numbers.{DeviceId, RunId}
use Rattle.home_types.specs.declared.modes.Mode.{Mode}
use Rattle.home_types.specs.declared.modes.Scheduler.TheVariants.{Fcfs}
use Rattle.hub_commands.specs.Boards.{board_text}
use Rattle.hub_commands.specs.Ways.{WindowWay}
use Rattle.hub_core.specs.Homes.{HomeState}
use Rattle.hub_core.specs.HubCalls.{RunsHaveEnded}
use Rattle.hub_core.specs.MustChecks.{has_must_check}
use Rattle.legal_days.specs.LegalDays.{AreLeftFrom, AreLegalFrom, Beginning, new_day, one_more_where, setting_from, state_from, to_come, total}
use Rattle.legal_days.specs.LegalWindows.{history_of}
use Rattle.routine_reader.specs.Rosters.{kinds_of}
use Rattle.routine_reader.specs.declared.scripts.Script.{Script}
use Rattle.routine_reader.specs.declared.scripts.WindowText.{WindowText}
use Rattle.std.specs.Prelude.{Bool, List, Some, [], false, if◌then◌else◌, length, slice_get, sum_by, true, ℕ, ◌++◌, ◌<◌, ◌==◌, ◌≡◌, ◌≤◌}

-- the course of a day: where it begins, which devices are down there, and the lines that stand
-- between the head and its windows
pub record DayCourse : Type 0 where
  pub begins : Beginning
  pub down : DeviceId → Bool
  pub above : List ℕ

-- a script's day, from its start
abbrev pub new_course : Script → DayCourse
new_course script = record { begins = new_day script; down = λ d. false; above = [] }

-- the course behind so many windows of this script
abbrev pub course_behind : Script → ℕ → DayCourse → DayCourse
course_behind script before course = record {
  begins = record {
    script = script;
    before = before;
    first = course.begins.first;
    called = course.begins.called;
    failed = course.begins.failed;
  };
  down = course.down;
  above = course.above;
}

-- the windows of the course, with their routines and the devices
abbrev pub script_of : DayCourse → Script
script_of course = to_come course.begins

-- each record is that of a window that was worked in this way, with so many probes of each device,
-- in order
pub record AreWorkedOn (works : WindowWay) (course : DayCourse) (mode : Mode)
    (records : List WindowRecord) (takes : List (DeviceId → ℕ)) : Type 0 where
  pub count : length takes ≡ length records
  pub each : (k : ℕ) (window : WindowText) (closed : WindowRecord) (taken : ℕ → ℕ)
      → slice_get (script_of course).windows.items k ≡ Some window
      → slice_get records k ≡ Some closed → slice_get takes k ≡ Some taken
      → works (setting_from course.begins mode records k) window closed taken

-- the probes that were taken of the device in all these windows
abbrev pub probes_taken_together : List (DeviceId → ℕ) → DeviceId → ℕ
probes_taken_together takes d = sum_by (λ taken. taken d) takes

-- in each window every run has ended, and where runs are served as they come and no device fails in
-- it each that has no must `check` has committed
abbrev pub AllHaveEndedOn : DayCourse → Mode → List WindowRecord → Type 0
AllHaveEndedOn course mode records =
    (k : ℕ) (closed : WindowRecord) → slice_get records k ≡ Some closed
    → RunsHaveEnded (setting_from course.begins mode records k) closed

-- no device was down as the day began, and none's faults rose in these windows
abbrev pub NoneHasFailedOn : DayCourse → List WindowRecord → Type 0
NoneHasFailedOn course records =
    (d : DeviceId) → d < length course.begins.script.devices.items
    → one_more_where (course.down d) (total (λ closed. closed.faults.items) records d) ≡ 0

-- each run of the window that has no must `check` has committed
abbrev pub HaveCommitted : Setting → WindowRecord → Type 0
HaveCommitted w closed =
    (r : RunId) → is_run w.runs r ≡ true → has_must_check w.runs r ≡ false
    → ((reading w (history_of closed)).run r).ended ≡ Some Committed

-- the same of each of these windows
abbrev pub AllHaveCommittedOn : DayCourse → Mode → List WindowRecord → Type 0
AllHaveCommittedOn course mode records =
    (k : ℕ) (closed : WindowRecord) → slice_get records k ≡ Some closed
    → HaveCommitted (setting_from course.begins mode records k) closed

-- the windows so far are legal, each was worked in this way with these probes, and every run has
-- ended; where runs are served as they come, no device was down as the day began and none has
-- failed since, each run that has no must `check` has committed
pub record WindowsArePlayedOn (works : WindowWay) (course : DayCourse) (mode : Mode)
    (records : List WindowRecord) (takes : List (DeviceId → ℕ)) : Type 0 where
  pub count : length records ≤ length (script_of course).windows.items
  pub legal : AreLegalFrom course.begins mode records
  pub worked : AreWorkedOn works course mode records takes
  pub ends : AllHaveEndedOn course mode records
  pub commits : mode.scheduler ≡ Fcfs → NoneHasFailedOn course records
      → AllHaveCommittedOn course mode records

-- the devices were probed as often as probes were taken of them in the windows
abbrev pub DevicesAreProbed : {D : Type 0} → (D → Shown) → List (DeviceId → ℕ) → List D → Type 0
DevicesAreProbed {D} shows takes devices =
    (d : DeviceId) (device : D) → slice_get devices d ≡ Some device
    → (shows device).probes ≡ probes_taken_together takes d

-- the home after the windows so far
pub record IsUnderWayOn {D : Type 0} (works : WindowWay) (shows : D → Shown) (course : DayCourse)
    (mode : Mode) (home : HomeState D) (records : List WindowRecord) : Type 0 where
  pub takes : List (DeviceId → ℕ)
  pub played : WindowsArePlayedOn works course mode records takes
  pub left : AreLeftFrom shows course.begins records home.devices
  pub probed : DevicesAreProbed shows takes home.devices
  pub kinds : home.kinds ≡ kinds_of course.begins.script
  pub world : home.world ≡ state_from course.begins records (length records)
  pub size : length home.world ≡ length course.begins.script.devices.items
  -- where no device has failed, each is up
  pub up : NoneHasFailedOn course records → (d : DeviceId) → d < length home.world
      → (stand_at home.world d).up ≡ true
  pub opened : home.opened ≡ length records

-- The same of a script's day

abbrev pub WindowsArePlayed : WindowWay → Script → Mode → List WindowRecord → List (DeviceId → ℕ)
    → Type 0
WindowsArePlayed works script mode records takes =
    WindowsArePlayedOn works (new_course script) mode records takes

abbrev pub DayIsUnderWay : {D : Type 0} → WindowWay → (D → Shown) → Script → Mode → HomeState D
    → List WindowRecord → Type 0
DayIsUnderWay works shows script mode home records =
    IsUnderWayOn works shows (new_course script) mode home records

-- Texts

-- the head and the lines below it, and the texts of these windows
abbrev pub text_on : DayCourse → Mode → Bool → List WindowRecord → List ℕ
text_on course mode trace records =
    head_text mode ++ (course.above
    ++ window_texts_from course.begins.before course.begins.script records mode trace)

-- the head, and the texts of these windows
abbrev pub text_so_far : Script → Mode → Bool → List WindowRecord → List ℕ
text_so_far script mode trace records = text_on (new_course script) mode trace records

-- what the record of a day ends with: the total, or a board's line behind it
pub data Closing : Type 0 where
  plain : Closing
  boarded : Closing

-- the lines below the windows
abbrev pub closing_lines : Closing → List WindowRecord → List ℕ
closing_lines plain records = total_text records
closing_lines boarded records = total_text records ++ board_text records

-- the same, with the lines below the windows where these are all
abbrev pub text_due_on : Closing → DayCourse → Mode → Bool → List WindowRecord → List ℕ
text_due_on closing course mode trace records =
    text_on course mode trace records
    ++ (if length records == length (script_of course).windows.items
    then closing_lines closing records else [])

abbrev pub text_due : Closing → Script → Mode → Bool → List WindowRecord → List ℕ
text_due closing script mode trace records =
    text_due_on closing (new_course script) mode trace records

-- the whole record of a course
abbrev pub record_text_on : Closing → DayCourse → List WindowRecord → Mode → Bool → List ℕ
record_text_on plain course records mode trace =
    day_text_from course.above course.begins.before course.begins.script records mode trace
record_text_on boarded course records mode trace =
    day_text_from course.above course.begins.before course.begins.script records mode trace
    ++ board_text records

-- the whole record
abbrev pub record_text : Closing → Script → List WindowRecord → Mode → Bool → List ℕ
record_text closing script records mode trace =
    record_text_on closing (new_course script) records mode trace
