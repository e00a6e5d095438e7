-- How a day of rooms ends, and the call that runs one: by what its words asked for, what was read,
-- worked and written.
use Rattle.day_clock.specs.Sinks.{AppendsPart}
use Rattle.day_report.specs.Days.{day_text}
use Rattle.device_states.specs.Devices.{Shown}
use Rattle.home_types.specs.Listed.{Listed}
use Rattle.home_types.specs.Numbers.{Moment}
use Rattle.home_types.specs.declared.modes.Mode.{Mode}
use Rattle.home_types.specs.declared.numbers.RunNo.{RunNo}
use Rattle.hub_commands.specs.Days.{plain, text_due, text_so_far}
use Rattle.hub_commands.specs.Finishes.{AppendsAtLeast, AppendsFirst, IsRead, IsUnwritten, NoScriptIsRead, Reads, WordsAreRefused, Writes}
use Rattle.hub_commands.specs.RoomDays.{RoomsAreLeft, RoomsArePlayed, Windows, told_records}
use Rattle.hub_commands.specs.declared.faults.Fault.TheVariants.{Check, Cross, Damaged, Disk, Memory, Read, Script as Refuses, Words, Write}
use Rattle.hub_commands.specs.declared.faults.Fault.{Fault}
use Rattle.room_hubs.specs.Splits.{script_split}
use Rattle.room_hubs.specs.declared.rosters.RoomWindow.{RoomWindow}
use Rattle.room_hubs.specs.declared.splits.SplitFault.TheVariants.{CrossFollow, CrossRoom, NoMemory}
use Rattle.room_hubs.specs.declared.splits.SplitFault.{SplitFault}
use Rattle.routine_reader.specs.declared.scripts.Script.{Script}
use Rattle.std.specs.Io.KnownBytes.{Appends}
use Rattle.std.specs.Prelude.{Bool, Err, IsOk, None, Option, Some, [], false, if◌then◌else◌, length, ℕ, ⊤, ◌+◌, ◌++◌, ◌<◌, ◌∷◌, ◌≡◌, ◌⊎◌}

-- each window was written before the next one was worked: the sink got at least the text of the
-- windows but the last
abbrev pub RoomsAreWrittenAsClosed : Script → Mode → Writes → Windows → Type 0
RoomsAreWrittenAsClosed script mode sink windows =
    (before : Windows) (closed : Listed RoomWindow) → windows ≡ before ++ closed ∷ []
    → AppendsAtLeast sink.held sink.holds
    (text_so_far script mode false (told_records script mode before))

-- the day is whole: there is a window of each room for each window of the script, and the sink got
-- the text
pub record RoomDayIsWhole {D : Type 0} (earliest latest : Moment) (shows : D → Shown)
    (script : Script) (mode : Mode) (sink : Writes) (windows : Windows)
    (o : Option (Listed D)) : Type 0 where
  pub devices : Listed D
  pub there : o ≡ Some devices
  pub all : length windows ≡ length script.windows.items
  pub left : RoomsAreLeft earliest latest shows script mode windows devices.items
  pub text : Appends sink.held sink.holds
      (day_text script (told_records script mode windows) mode false)
  pub calm : sink.faults_after ≡ sink.faults

-- the day was cut short where the sink failed: it is legal up to there, and the sink got a first
-- part of its text, and not all
pub record RoomDayIsCut {D : Type 0} (earliest latest : Moment) (shows : D → Shown)
    (script : Script) (mode : Mode) (sink : Writes) (windows : Windows)
    (o : Option (Listed D)) : Type 0 where
  pub devices : Listed D
  pub there : o ≡ Some devices
  pub left : RoomsAreLeft earliest latest shows script mode windows devices.items
  pub text : AppendsPart sink.held sink.holds
      (text_due plain script mode false (told_records script mode windows))
  pub as_closed : RoomsAreWrittenAsClosed script mode sink windows
  pub failed : sink.faults < sink.faults_after

-- the day was cut short for want of memory: its windows are legal up to there, no device is handed
-- back, and the sink got a first part of its text
pub record RoomDayIsStarved {D : Type 0} (earliest latest : Moment) (script : Script) (mode : Mode)
    (sink : Writes) (windows : Windows) (o : Option (Listed D)) : Type 0 where
  pub no_devices : o ≡ None
  pub played : RoomsArePlayed earliest latest script mode windows
  pub text : AppendsFirst sink.held sink.holds
      (text_due plain script mode false (told_records script mode windows))
  pub as_closed : RoomsAreWrittenAsClosed script mode sink windows
  pub calm : sink.faults_after ≡ sink.faults

-- how the day of a script ends whose windows can all be split
abbrev pub RoomDayEnds : {D : Type 0} → Moment → Moment → (D → Shown) → Script → Mode → Writes
    → Windows → Option (Listed D) → Option Fault → Type 0
RoomDayEnds earliest latest shows script mode sink windows devices None =
    RoomDayIsWhole earliest latest shows script mode sink windows devices
RoomDayEnds earliest latest shows script mode sink windows devices (Some (Refuses fault)) = ⊥
RoomDayEnds earliest latest shows script mode sink windows devices (Some Words) = ⊥
RoomDayEnds earliest latest shows script mode sink windows devices (Some Read) = ⊥
RoomDayEnds earliest latest shows script mode sink windows devices (Some Write) =
    RoomDayIsCut earliest latest shows script mode sink windows devices
RoomDayEnds earliest latest shows script mode sink windows devices (Some Memory) =
    RoomDayIsStarved earliest latest script mode sink windows devices
RoomDayEnds earliest latest shows script mode sink windows devices
    (Some (Check window place name)) = ⊥
RoomDayEnds earliest latest shows script mode sink windows devices
    (Some (Cross window run follow)) = ⊥
RoomDayEnds earliest latest shows script mode sink windows devices (Some Disk) = ⊥
RoomDayEnds earliest latest shows script mode sink windows devices (Some (Damaged slot)) = ⊥

-- the refusal of a split that a fault tells
abbrev pub crossing : RunNo → Bool → SplitFault
crossing run follow = if follow then CrossFollow run else CrossRoom run

-- the first windows of the script, so many, can be split
abbrev pub SplitBefore : Script → ℕ → Type 0
SplitBefore script n = (w : ℕ) → w < n → IsOk (script_split script w)

-- the window with this number, from 1, is the first one that the split refuses, and so
pub record IsFirstRefused (script : Script) (window : ℕ) (run : RunNo)
    (follow : Bool) : Type 0 where
  pub number : ℕ
  pub from_one : window ≡ number + 1
  pub there : number < length script.windows.items
  pub before : SplitBefore script number
  pub refused : script_split script number ≡ Err (crossing run follow)

-- the fault of a window with this number, from 0, whose split is refused so
abbrev pub IsSplitFault : ℕ → SplitFault → Fault → Type 0
IsSplitFault number refusal (Cross window run follow) =
    (window ≡ number + 1) × (refusal ≡ crossing run follow)
IsSplitFault number refusal Memory = refusal ≡ NoMemory
IsSplitFault number refusal (Refuses fault) = ⊥
IsSplitFault number refusal Words = ⊥
IsSplitFault number refusal Read = ⊥
IsSplitFault number refusal Write = ⊥
IsSplitFault number refusal (Check window place name) = ⊥
IsSplitFault number refusal Disk = ⊥
IsSplitFault number refusal (Damaged slot) = ⊥

-- why the windows of the script were not all split: memory was wanted, or the first one that is
-- refused
abbrev pub SplitsEnd : Script → Fault → Type 0
SplitsEnd script (Cross window run follow) = IsFirstRefused script window run follow
SplitsEnd script Memory = ⊤
SplitsEnd script (Refuses fault) = ⊥
SplitsEnd script Words = ⊥
SplitsEnd script Read = ⊥
SplitsEnd script Write = ⊥
SplitsEnd script (Check window place name) = ⊥
SplitsEnd script Disk = ⊥
SplitsEnd script (Damaged slot) = ⊥

-- nothing was worked, and nothing was written; the bench is as it was, so it has built no device,
-- and none was called
pub record NothingIsWorked {B D : Type 0} (bench after : B) (sink : Writes) (windows : Windows)
    (devices : Option (Listed D)) : Type 0 where
  pub no_window : windows ≡ []
  pub no_devices : devices ≡ None
  pub unwritten : IsUnwritten sink
  pub unasked : after ≡ bench

-- the script was read, and its windows were not all split among the rooms, for this fault
pub record RoomsAreUnsplit (source : Reads) (fault : Option Fault) : Type 0 where
  pub script : Script
  pub read : IsRead source script
  pub why : Fault
  pub is : fault ≡ Some why
  pub splits : SplitsEnd script why

-- the day of the script that was read ends so; each of its windows can be split
pub record RoomDayIsWorked {D : Type 0} (earliest latest : Moment) (shows : D → Shown) (mode : Mode)
    (source : Reads) (sink : Writes) (windows : Windows) (devices : Option (Listed D))
    (fault : Option Fault) : Type 0 where
  pub script : Script
  pub read : IsRead source script
  pub splits : SplitBefore script (length script.windows.items)
  pub ends : RoomDayEnds earliest latest shows script mode sink windows devices fault

-- how the call ends, by the mode that its words ask for, if they are of the command, and by the
-- bench before and after it
abbrev pub RoomCallEnds : {B D : Type 0} → Moment → Moment → (D → Shown) → Option Mode → B → B
    → Reads → Writes → Windows → Option (Listed D) → Option Fault → Type 0
RoomCallEnds earliest latest shows None bench after source sink windows devices fault =
    WordsAreRefused source fault × NothingIsWorked bench after sink windows devices
RoomCallEnds earliest latest shows (Some mode) bench after source sink windows devices fault =
    ((NoScriptIsRead source fault ⊎ RoomsAreUnsplit source fault)
    × NothingIsWorked bench after sink windows devices)
    ⊎ RoomDayIsWorked earliest latest shows mode source sink windows devices fault
