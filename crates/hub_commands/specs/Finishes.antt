-- How the reading of a script ends and the day of one: by its fault, what was read, played and
-- written.
use Rattle.command_words.specs.declared.command_lines.Options.{Options}
use Rattle.day_clock.specs.Sinks.{AppendsPart}
use Rattle.day_clock.specs.Sources.{TakesCount, TakesUpTo}
use Rattle.device_states.specs.Devices.{Shown}
use Rattle.history_book.specs.declared.records.WindowRecord.{WindowRecord}
use Rattle.home_types.specs.Limits.{most_script_bytes}
use Rattle.home_types.specs.Listed.{Listed}
use Rattle.home_types.specs.Numbers.{DeviceId}
use Rattle.hub_commands.specs.Days.{Closing, DayCourse, DevicesAreProbed, WindowsArePlayedOn, new_course, record_text_on, text_due_on, text_on}
use Rattle.hub_commands.specs.Ways.{WindowWay}
use Rattle.hub_commands.specs.declared.faults.Fault.TheVariants.{Check, Cross, Damaged, Disk, Memory, Read, Script as Refuses, Words, Write}
use Rattle.hub_commands.specs.declared.faults.Fault.{Fault}
use Rattle.hub_commands.specs.declared.finishes.Day.{Day}
use Rattle.legal_days.specs.LegalDays.{IsLegalCutDayFrom, IsLegalDayFrom}
use Rattle.routine_reader.specs.Readings.{script_reading}
use Rattle.routine_reader.specs.Scripts.{plain_script}
use Rattle.routine_reader.specs.Sound.{IsSound}
use Rattle.routine_reader.specs.Spots.{is_memory}
use Rattle.routine_reader.specs.declared.faults.ReadFault.{ReadFault}
use Rattle.routine_reader.specs.declared.scripts.Script.{Script}
use Rattle.std.specs.Io.KnownBytes.{Appends, IsAtEnd, Keeps}
use Rattle.std.specs.Prelude.{Err, IfSome, List, None, Ok, Option, Result, Some, [], false, take, ℕ, ◌++◌, ◌+◌, ◌<◌, ◌∷◌, ◌≡◌, ◌⊎◌}

-- what the call does to its source: the bytes to come before and after it, where the source tells
-- them, and its faults
pub record Reads : Type 0 where
  pub left : Option (List ℕ)
  pub rest : Option (List ℕ)
  pub faults : ℕ
  pub faults_after : ℕ

abbrev pub read_off : Option (List ℕ) → Option (List ℕ) → ℕ → ℕ → Reads
read_off left rest faults faults_after =
    record { left = left; rest = rest; faults = faults; faults_after = faults_after }

-- what it does to its sink: the bytes held before and after it, where the sink tells them, and its
-- faults
pub record Writes : Type 0 where
  pub held : Option (List ℕ)
  pub holds : Option (List ℕ)
  pub faults : ℕ
  pub faults_after : ℕ

abbrev pub written : Option (List ℕ) → Option (List ℕ) → ℕ → ℕ → Writes
written held holds faults faults_after =
    record { held = held; holds = holds; faults = faults; faults_after = faults_after }

-- at most one byte more than a script may have was taken
abbrev pub IsWithinLimit : Reads → Type 0
IsWithinLimit source = TakesUpTo source.left source.rest (most_script_bytes + 1)

-- the source gave all of its bytes without a fault, and the script is their reading, and sound
pub record IsRead (source : Reads) (script : Script) : Type 0 where
  pub ended : IsAtEnd source.rest
  pub within : IsWithinLimit source
  pub reading : IfSome source.left (λ bytes. script_reading bytes ≡ Ok (plain_script script))
  pub sound : IsSound (plain_script script)
  pub calm : source.faults_after ≡ source.faults

-- all of it was read, or one byte more than a script may have
abbrev pub IsTaken : Reads → Type 0
IsTaken source = IsAtEnd source.rest ⊎ TakesCount source.left source.rest (most_script_bytes + 1)

-- the source gave its bytes without a fault, to its end or to one byte more than a script may have,
-- and their reading is this refusal
pub record IsRefused (source : Reads) (fault : ReadFault) : Type 0 where
  pub named : is_memory fault ≡ false
  pub taken : IsTaken source
  pub within : IsWithinLimit source
  pub reading : IfSome source.left (λ bytes. script_reading bytes ≡ Err fault)
  pub calm : source.faults_after ≡ source.faults

-- nothing was read
abbrev pub IsUnread : Reads → Type 0
IsUnread source = (source.rest ≡ source.left) × (source.faults_after ≡ source.faults)

-- the source failed
abbrev pub InputFails : Reads → Type 0
InputFails source = (source.faults < source.faults_after) × IsWithinLimit source

-- memory was wanted, before anything was read or behind it
abbrev pub InputIsStarved : Reads → Type 0
InputIsStarved source = (source.faults_after ≡ source.faults) × IsWithinLimit source

-- what came of the input
abbrev pub InputIsRead : Reads → Result Script Fault → Type 0
InputIsRead source (Ok script) = IsRead source script
InputIsRead source (Err (Refuses fault)) = IsRefused source fault
InputIsRead source (Err Words) = ⊥
InputIsRead source (Err Read) = InputFails source
InputIsRead source (Err Write) = ⊥
InputIsRead source (Err Memory) = InputIsStarved source
InputIsRead source (Err (Check window place name)) = ⊥
InputIsRead source (Err (Cross window run follow)) = ⊥
InputIsRead source (Err Disk) = ⊥
InputIsRead source (Err (Damaged slot)) = ⊥

-- no script was read, for this fault
pub record NoScriptIsRead (source : Reads) (fault : Option Fault) : Type 0 where
  pub why : Fault
  pub is : fault ≡ Some why
  pub input : InputIsRead source (Err why)

-- the words are of no command that the call takes, or memory was wanted for reading them, and
-- nothing was read
abbrev pub WordsAreRefused : Reads → Option Fault → Type 0
WordsAreRefused source fault = ((fault ≡ Some Words) ⊎ (fault ≡ Some Memory)) × IsUnread source

-- the sink holds what it held
abbrev pub IsUnwritten : Writes → Type 0
IsUnwritten sink = Keeps sink.held sink.holds × (sink.faults_after ≡ sink.faults)

-- no day was played, and nothing was written
abbrev pub NothingIsPlayed : {D : Type 0} → Writes → Option (Day D) → Type 0
NothingIsPlayed sink day = (day ≡ None) × IsUnwritten sink

-- the sink got a first part of these bytes, or all
abbrev pub AppendsFirst : Option (List ℕ) → Option (List ℕ) → List ℕ → Type 0
AppendsFirst held holds bytes = (n : ℕ) × Appends held holds (take n bytes)

-- the sink got at least these bytes
abbrev pub AppendsAtLeast : Option (List ℕ) → Option (List ℕ) → List ℕ → Type 0
AppendsAtLeast held holds bytes = (more : List ℕ) × Appends held holds (bytes ++ more)

-- each window was written before the next one was played: the sink got at least the text of the
-- windows but the last
abbrev pub IsWrittenAsClosedOn : DayCourse → Options → Writes → List WindowRecord → Type 0
IsWrittenAsClosedOn course options sink records =
    (before : List WindowRecord) (closed : WindowRecord) → records ≡ before ++ closed ∷ []
    → AppendsAtLeast sink.held sink.holds (text_on course options.mode options.trace before)

-- the day that is handed back is whole and legal in the mode of the words, each of its windows was
-- worked in this way, in each every run has ended, and where runs are served as they come and no
-- device fails each that has no must `check` has committed, and the sink got its text; outside the
-- weak model the printed order of each window holds each committed run once, and the answers and
-- the last state are those of its serial execution; under it no order is claimed; at the day's end
-- each device that is up stands so
pub record IsWholeOn {D : Type 0} (works : WindowWay) (shows : D → Shown) (closing : Closing)
    (course : DayCourse) (options : Options) (sink : Writes) (o : Option (Day D)) : Type 0 where
  pub day : Day D
  pub given : o ≡ Some day
  pub devices : Listed D
  pub there : day.devices ≡ Some devices
  pub legal : IsLegalDayFrom shows course.begins options.mode day.windows.items devices.items
  pub takes : List (DeviceId → ℕ)
  pub played : WindowsArePlayedOn works course options.mode day.windows.items takes
  pub probed : DevicesAreProbed shows takes devices.items
  pub text : Appends sink.held sink.holds
      (record_text_on closing course day.windows.items options.mode options.trace)
  pub calm : sink.faults_after ≡ sink.faults

-- the day was cut short where the sink failed: it is legal up to there, and the sink got a first
-- part of its text, and not all
pub record IsCutOn {D : Type 0} (works : WindowWay) (shows : D → Shown) (closing : Closing)
    (course : DayCourse) (options : Options) (sink : Writes) (o : Option (Day D)) : Type 0 where
  pub day : Day D
  pub given : o ≡ Some day
  pub devices : Listed D
  pub there : day.devices ≡ Some devices
  pub legal : IsLegalCutDayFrom shows course.begins options.mode day.windows.items devices.items
  pub takes : List (DeviceId → ℕ)
  pub played : WindowsArePlayedOn works course options.mode day.windows.items takes
  pub probed : DevicesAreProbed shows takes devices.items
  pub text : AppendsPart sink.held sink.holds
      (text_due_on closing course options.mode options.trace day.windows.items)
  pub as_closed : IsWrittenAsClosedOn course options sink day.windows.items
  pub failed : sink.faults < sink.faults_after

-- the day was cut short for want of memory: its windows are legal up to there, no device is handed
-- back, and the sink got a first part of its text
pub record IsStarvedOn {D : Type 0} (works : WindowWay) (closing : Closing) (course : DayCourse)
    (options : Options) (sink : Writes) (o : Option (Day D)) : Type 0 where
  pub day : Day D
  pub given : o ≡ Some day
  pub no_devices : day.devices ≡ None
  pub takes : List (DeviceId → ℕ)
  pub played : WindowsArePlayedOn works course options.mode day.windows.items takes
  pub text : AppendsFirst sink.held sink.holds
      (text_due_on closing course options.mode options.trace day.windows.items)
  pub as_closed : IsWrittenAsClosedOn course options sink day.windows.items
  pub calm : sink.faults_after ≡ sink.faults

-- how a day of this course ends, with a record of this closing
abbrev pub DayEndsOn : {D : Type 0} → WindowWay → (D → Shown) → Closing → DayCourse → Options
    → Writes → Option (Day D) → Option Fault → Type 0
DayEndsOn works shows closing course options sink day None =
    IsWholeOn works shows closing course options sink day
DayEndsOn works shows closing course options sink day (Some (Refuses fault)) = ⊥
DayEndsOn works shows closing course options sink day (Some Words) = ⊥
DayEndsOn works shows closing course options sink day (Some Read) = ⊥
DayEndsOn works shows closing course options sink day (Some Write) =
    IsCutOn works shows closing course options sink day
DayEndsOn works shows closing course options sink day (Some Memory) =
    IsStarvedOn works closing course options sink day
DayEndsOn works shows closing course options sink day (Some (Check window place name)) = ⊥
DayEndsOn works shows closing course options sink day (Some (Cross window run follow)) = ⊥
DayEndsOn works shows closing course options sink day (Some Disk) = ⊥
DayEndsOn works shows closing course options sink day (Some (Damaged slot)) = ⊥

-- the same of a script's day

abbrev pub IsWrittenAsClosed : Script → Options → Writes → List WindowRecord → Type 0
IsWrittenAsClosed script options sink records =
    IsWrittenAsClosedOn (new_course script) options sink records

abbrev pub DayIsWhole : {D : Type 0} → WindowWay → (D → Shown) → Closing → Script → Options → Writes
    → Option (Day D) → Type 0
DayIsWhole works shows closing script options sink o =
    IsWholeOn works shows closing (new_course script) options sink o

abbrev pub IsCut : {D : Type 0} → WindowWay → (D → Shown) → Closing → Script → Options → Writes
    → Option (Day D) → Type 0
IsCut works shows closing script options sink o =
    IsCutOn works shows closing (new_course script) options sink o

abbrev pub IsStarved : {D : Type 0} → WindowWay → Closing → Script → Options → Writes
    → Option (Day D) → Type 0
IsStarved {D} works closing script options sink o =
    IsStarvedOn {D = D} works closing (new_course script) options sink o

-- how the day of a script ends, with a record of this closing
abbrev pub DayEnds : {D : Type 0} → WindowWay → (D → Shown) → Closing → Script → Options → Writes
    → Option (Day D) → Option Fault → Type 0
DayEnds works shows closing script options sink day fault =
    DayEndsOn works shows closing (new_course script) options sink day fault
