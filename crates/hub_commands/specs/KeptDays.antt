-- A day whose states are kept: how far it is, how it ends, and what its disk keeps.
use Rattle.command_words.specs.declared.command_lines.Options.{Options}
use Rattle.day_report.specs.Days.{kept_line}
use Rattle.device_states.specs.Devices.{Shown}
use Rattle.history_book.specs.declared.records.WindowRecord.{WindowRecord}
use Rattle.slot_disks.specs.Disks.{LeavesOnly}
use Rattle.home_journal.specs.Journals.{JournalState, KeepsFirst}
use Rattle.home_journal.specs.KeptStates.{kept_states}
use Rattle.home_types.specs.HomeStates.{stand_at}
use Rattle.home_types.specs.Listed.{Listed}
use Rattle.home_types.specs.Numbers.{DeviceId}
use Rattle.home_types.specs.declared.kinds.Kind.{Kind}
use Rattle.home_types.specs.declared.worlds.Stand.{Stand}
use Rattle.hub_commands.specs.Days.{DayCourse, DevicesAreProbed, WindowsArePlayedOn, course_behind, plain, text_on}
use Rattle.hub_commands.specs.Finishes.{IsCutOn, IsStarvedOn, IsWholeOn, Writes, written}
use Rattle.hub_commands.specs.Going.{GoesOnOrEnds, IsGoingOn}
use Rattle.hub_commands.specs.Played.{HasGoneOn}
use Rattle.hub_commands.specs.Statuses.{status_for_fault}
use Rattle.hub_commands.specs.Ways.{WindowWay}
use Rattle.hub_commands.specs.declared.faults.Fault.TheVariants.{Check, Cross, Damaged, Disk, Memory, Read, Script as Refuses, Words, Write}
use Rattle.hub_commands.specs.declared.faults.Fault.{Fault}
use Rattle.hub_commands.specs.declared.finishes.Day.{Day}
use Rattle.hub_commands.specs.declared.finishes.Finish.{Finish}
use Rattle.hub_commands.specs.declared.kept_days.KeptDay.{KeptDay}
use Rattle.hub_commands.specs.declared.kept_days.UntoldKeptDay.{UntoldKeptDay}
use Rattle.hub_commands.specs.declared.plays.DayUnderWay.{DayUnderWay}
use Rattle.hub_core.specs.Homes.{HomeState}
use Rattle.legal_days.specs.LegalDays.{AreLeftFrom, Beginning, IsLegalCutDayFrom}
use Rattle.legal_days.specs.ResumedDays.{GoesOnBehind}
use Rattle.routine_reader.specs.Rosters.{kinds_of}
use Rattle.routine_reader.specs.declared.scripts.Script.{Script}
use Rattle.std.specs.Io.KnownBytes.{Appends}
use Rattle.std.specs.Prelude.{Bool, Err, List, None, Ok, Option, Result, Some, [], false, if◌then◌else◌, length, map, slice_get, suc, take, true, ℕ, ◌+◌, ◌++◌, ◌-◌, ◌<◌, ◌∷◌, ◌≡◌, ◌≤◌, ◌⊎◌}

-- the states in which these windows left the home
abbrev pub last_states : List WindowRecord → List (List Stand)
last_states records = map (λ closed. closed.last.devices.items) records

-- the course behind so many kept states
abbrev pub kept_course : ℕ → Beginning → DayCourse
kept_course kept begins = record {
  begins = begins;
  down = λ d. if (stand_at begins.first d).up then false else true;
  above = kept_line kept;
}

-- the windows of the day that is handed back, if any
abbrev pub windows_of : {D : Type 0} → Option (Day D) → List WindowRecord
windows_of None = []
windows_of (Some day) = day.windows.items

-- the home is one in which a day begins so
pub record HomeBegins {D : Type 0} (shows : D → Shown) (begins : Beginning)
    (home : HomeState D) : Type 0 where
  pub left : AreLeftFrom shows begins [] home.devices
  pub unprobed : (d : DeviceId) (device : D) → slice_get home.devices d ≡ Some device
      → (shows device).probes ≡ 0
  pub kinds : home.kinds ≡ kinds_of begins.script
  pub world : home.world ≡ begins.first
  pub size : length home.world ≡ length begins.script.devices.items
  pub opened : home.opened ≡ 0

-- the home is one in which a day goes on behind so many kept states, of which this is the last
pub record HomeGoesOn {D : Type 0} (shows : D → Shown) (script : Script) (kept : ℕ)
    (last : Option (List Stand)) (home : HomeState D) : Type 0 where
  pub begins : Beginning
  pub goes_on : GoesOnBehind script kept last begins
  pub home_begins : HomeBegins shows begins home

-- the day goes on so with its head, or it has ended
pub record BeginsBehind {D : Type 0} (works : WindowWay) (shows : D → Shown) (script : Script)
    (kept : ℕ) (last : Option (List Stand)) (options : Options) (sink : Writes)
    (result : Result (DayUnderWay D) (Finish D)) : Type 0 where
  pub begins : Beginning
  pub goes_on : GoesOnBehind script kept last begins
  pub begun : GoesOnOrEnds works shows (kept_course kept begins) options sink 0 result

-- all devices and windows are handed back
abbrev pub HandsAllBack : {D : Type 0} → List D → Listed WindowRecord → Option (Day D) → Type 0
HandsAllBack {D} items windows day =
    (devices : Listed D) × (devices.items ≡ items)
    × (day ≡ Some (record { windows = windows; devices = Some devices }))

-- How such a day ends

-- the disk failed as the state of the day's last window was to be kept: the day is legal up to
-- there, and the sink got the texts of the windows before that one
pub record IsUnkeptOn {D : Type 0} (works : WindowWay) (shows : D → Shown) (course : DayCourse)
    (options : Options) (sink : Writes) (o : Option (Day D)) : Type 0 where
  pub day : Day D
  pub given : o ≡ Some day
  pub devices : Listed D
  pub there : day.devices ≡ Some devices
  pub legal : IsLegalCutDayFrom shows course.begins options.mode day.windows.items devices.items
  pub takes : List (DeviceId → ℕ)
  pub played : WindowsArePlayedOn works course options.mode day.windows.items takes
  pub probed : DevicesAreProbed shows takes devices.items
  pub before : List WindowRecord
  pub unkept : WindowRecord
  pub last : day.windows.items ≡ before ++ unkept ∷ []
  pub text : Appends sink.held sink.holds (text_on course options.mode options.trace before)
  pub calm : sink.faults_after ≡ sink.faults

-- how a day of this course ends that is kept
abbrev pub KeptDayEnds : {D : Type 0} → WindowWay → (D → Shown) → DayCourse → Options → Writes
    → Option (Day D) → Option Fault → Type 0
KeptDayEnds works shows course options sink day None =
    IsWholeOn works shows plain course options sink day
KeptDayEnds works shows course options sink day (Some (Refuses fault)) = ⊥
KeptDayEnds works shows course options sink day (Some Words) = ⊥
KeptDayEnds works shows course options sink day (Some Read) = ⊥
KeptDayEnds works shows course options sink day (Some Write) =
    IsCutOn works shows plain course options sink day
KeptDayEnds works shows course options sink day (Some Memory) =
    IsStarvedOn works plain course options sink day
KeptDayEnds works shows course options sink day (Some (Check window place name)) = ⊥
KeptDayEnds works shows course options sink day (Some (Cross window run follow)) = ⊥
KeptDayEnds works shows course options sink day (Some Disk) =
    IsUnkeptOn works shows course options sink day
KeptDayEnds works shows course options sink day (Some (Damaged slot)) = ⊥

-- of so many windows that were closed, of how many the state is kept whatever happens: of all, but
-- of the last one where the disk failed. No other text was written
abbrev pub surely_kept : Option Fault → ℕ → ℕ
surely_kept None count = count
surely_kept (Some (Refuses fault)) count = count
surely_kept (Some Words) count = count
surely_kept (Some Read) count = count
surely_kept (Some Write) count = count
surely_kept (Some Memory) count = count
surely_kept (Some (Check window place name)) count = count
surely_kept (Some (Cross window run follow)) count = count
surely_kept (Some Disk) count = count - 1
surely_kept (Some (Damaged slot)) count = count

-- the file keeps these states, and behind them at least so many of the new ones, in order
abbrev pub KeepsAtLeast : List Kind → ℕ → List (List Stand) → List (List Stand) → ℕ
    → List ℕ → Type 0
KeepsAtLeast kinds most homes added n c =
    (i : ℕ) × (n ≤ i) × (kept_states kinds most c ≡ Ok (homes ++ take i added))

-- a crash at any moment since the disk was handed in leaves one of its images of then, or the
-- states that were found on it and behind them the first of these windows', in order; one behind
-- the call leaves each whose window was written
pub record IsDiskLeft {Q : Type 0} (seen : Q → List ℕ) (images : Q → List ℕ → Type 0)
    (moment : Q → ℕ) (since : Q → ℕ → List ℕ → Type 0) (kinds : List Kind) (most : ℕ)
    (homes : List (List Stand)) (first now : Q) (records : List WindowRecord)
    (fault : Option Fault) : Type 0 where
  pub any_moment : LeavesOnly moment since first now
      (λ c. images first c ⊎ KeepsFirst kinds most homes (last_states records) c)
  pub durable : (c : List ℕ) → images now c
      → KeepsAtLeast kinds most homes (last_states records) (surely_kept fault (length records)) c

-- the same, whatever states were found
abbrev pub DiskIsLeft : {Q : Type 0} → (Q → List ℕ) → (Q → List ℕ → Type 0) → (Q → ℕ)
    → (Q → ℕ → List ℕ → Type 0) → Script → Q → Q → List WindowRecord → Option Fault → Type 0
DiskIsLeft seen images moment since script first now records fault =
    (homes : List (List Stand))
    → kept_states (kinds_of script) (length script.windows.items) (seen first) ≡ Ok homes
    → IsDiskLeft seen images moment since (kinds_of script)
    (length script.windows.items) homes first now records fault

-- the day of this course has ended, and this disk is handed back
pub record HasEndedKept {D Q : Type 0} (works : WindowWay) (shows : D → Shown) (told : Bool)
    (seen : Q → List ℕ) (images : Q → List ℕ → Type 0) (moment : Q → ℕ)
    (since : Q → ℕ → List ℕ → Type 0) (failures : Q → ℕ) (script : Script) (course : DayCourse)
    (options : Options) (sink : Writes) (first now : Q) (day : Option (Day D))
    (fault : Option Fault) : Type 0 where
  pub ends : KeptDayEnds works shows course options sink day fault
  pub later : failures first ≤ failures now
  pub failed : fault ≡ Some Disk → failures first < failures now
  pub disk : told ≡ true
      → DiskIsLeft seen images moment since script first now (windows_of day) fault

-- How it goes on

-- behind so many windows of the script the states of these windows were kept by the journal, since
-- its disk was this one
pub record IsJournalSoFar {Q : Type 0} (told : Bool) (seen : Q → List ℕ)
    (images : Q → List ℕ → Type 0) (moment : Q → ℕ) (since : Q → ℕ → List ℕ → Type 0)
    (failures : Q → ℕ)
    (script : Script) (before : ℕ) (first : Q) (records : List WindowRecord)
    (journal : JournalState Q) : Type 0 where
  pub kinds : journal.kinds ≡ kinds_of script
  pub most : journal.most ≡ length script.windows.items
  pub counts : journal.kept ≡ before + length records
  pub later : failures first ≤ failures journal.disk
  pub disk : told ≡ true → (homes : List (List Stand))
      → kept_states (kinds_of script) (length script.windows.items) (seen first) ≡ Ok homes
      → (kept_states (kinds_of script) (length script.windows.items) (seen journal.disk)
      ≡ Ok (homes ++ last_states records))
      × LeavesOnly moment since first journal.disk (λ c. images first c
      ⊎ KeepsFirst (kinds_of script) (length script.windows.items) homes (last_states records) c)

-- on such a course these windows were played and written, too
pub record IsKeptSoFar {D Q : Type 0} (works : WindowWay) (shows : D → Shown) (told : Bool)
    (seen : Q → List ℕ) (images : Q → List ℕ → Type 0) (moment : Q → ℕ)
    (since : Q → ℕ → List ℕ → Type 0) (failures : Q → ℕ) (script : Script) (before : ℕ)
    (course : DayCourse) (options : Options) (sink : Writes) (first : Q) (home : HomeState D)
    (records : List WindowRecord) (journal : JournalState Q) : Type 0 where
  pub going : IsGoingOn works shows (course_behind script before course) options sink home records
  pub on_disk : IsJournalSoFar told seen images moment since failures script before
      first records journal

-- the day goes on with so many windows, or it has ended
abbrev pub KeepsOn : {D Q : Type 0} → WindowWay → (D → Shown) → Bool → (Q → List ℕ)
    → (Q → List ℕ → Type 0) → (Q → ℕ) → (Q → ℕ → List ℕ → Type 0) → (Q → ℕ) → Script → ℕ → DayCourse
    → Options → Writes → Q → ℕ → Result (KeptDay D Q) (Finish D × Q) → Type 0
KeepsOn works shows told seen images moment since failures script before course options sink first
    count (Ok kept) =
    (length kept.day.windows.items ≡ count)
    × IsKeptSoFar works shows told seen images moment since failures script before course options
    sink first kept.day.home kept.day.windows.items kept.journal
KeepsOn works shows told seen images moment since failures script before course options sink first
    count (Err ended) =
    (ended.0.status ≡ status_for_fault ended.0.fault)
    × HasEndedKept works shows told seen images moment since failures script
    (course_behind script before course) options sink first ended.1 ended.0.day ended.0.fault

-- the state in which the next window left the home was kept, and its lines were written, on any
-- course behind so many windows of the script, whatever the sink held and the disk kept as the day
-- began
abbrev pub HasKept : {D Q : Type 0} → WindowWay → (D → Shown) → Bool → (Q → List ℕ)
    → (Q → List ℕ → Type 0) → (Q → ℕ) → (Q → ℕ → List ℕ → Type 0) → (Q → ℕ) → Script → ℕ → Options
    → Writes → UntoldKeptDay D Q → Result (KeptDay D Q) (Finish D × Q) → Type 0
HasKept {D}
    {Q} works shows told seen images moment since failures script before options sink next result =
    (course : DayCourse) (held : Option (List ℕ)) (f : ℕ) (first : Q) (home : HomeState D)
    (records : List WindowRecord)
    → IsKeptSoFar works shows told seen images moment since failures script before course options
    (written held sink.held f sink.faults) first home records next.journal → HasGoneOn works shows
    (course_behind script before course) options.mode records next.day.home next.day.windows.items
    → KeepsOn works shows told seen images moment since failures script before course options
    (written held sink.holds f sink.faults_after) first (suc (length records)) result

-- the next window was played, kept and written, on any such course
abbrev pub HasKeptNext : {D Q : Type 0} → WindowWay → (D → Shown) → Bool → (Q → List ℕ)
    → (Q → List ℕ → Type 0) → (Q → ℕ) → (Q → ℕ → List ℕ → Type 0) → (Q → ℕ) → Script → ℕ → Options
    → Writes → KeptDay D Q → Result (KeptDay D Q) (Finish D × Q) → Type 0
HasKeptNext {D}
    {Q} works shows told seen images moment since failures script before options sink kept result =
    (course : DayCourse) (held : Option (List ℕ)) (f : ℕ) (first : Q)
    → IsKeptSoFar works shows told seen images moment since failures script before course options
    (written held sink.held f sink.faults) first kept.day.home kept.day.windows.items kept.journal
    → KeepsOn works shows told seen images moment since failures script before course options
    (written held sink.holds f sink.faults_after) first (suc (length kept.day.windows.items)) result

-- the day that goes on behind so many kept states, of which this is the last, has ended
pub record HasEndedBehind {D Q : Type 0} (works : WindowWay) (shows : D → Shown) (told : Bool)
    (seen : Q → List ℕ) (images : Q → List ℕ → Type 0) (moment : Q → ℕ)
    (since : Q → ℕ → List ℕ → Type 0) (failures : Q → ℕ) (script : Script) (kept : ℕ)
    (last : Option (List Stand)) (options : Options) (sink : Writes) (first now : Q)
    (day : Option (Day D)) (fault : Option Fault) : Type 0 where
  pub begins : Beginning
  pub goes_on : GoesOnBehind script kept last begins
  pub ended : HasEndedKept works shows told seen images moment since failures script
      (kept_course kept begins) options sink first now day fault
