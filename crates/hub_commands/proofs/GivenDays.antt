-- A day that was begun is handed back, however it ends.
use Rattle.hub_commands.proofs.Prelude.{Check, Closing, Cross, Damaged, Day, DayCourse, DayEndsOn, Disk, Fault, HasStarved, KeptDayEnds, List, Memory, None, Option, Options, Read, Shown, Some, WindowWay, Words, Write, Writes, refl, ℕ, ◌≡◌, ◌≢◌}
use Rattle.hub_commands.specs.LastLines.{LineIsWritten}
use Rattle.hub_commands.specs.declared.faults.Fault.TheVariants.{Script as Refuses}

is_given : {D : Type 0} (o : Option (Day D)) (day : Day D) → o ≡ Some day → o ≢ None
is_given o day is none = absurd (cc)

-- a day of a course
pub day_given : {D : Type 0} (works : WindowWay) (shows : D → Shown) (closing : Closing) (course : DayCourse) (options : Options) (sink : Writes) (o : Option (Day D)) (fault : Option Fault)
    → DayEndsOn works shows closing course options sink o fault → o ≢ None
day_given works shows closing course options sink o None ends = is_given o ends.day ends.given
day_given works shows closing course options sink o (Some (Refuses fault)) ends = absurd ends
day_given works shows closing course options sink o (Some Words) ends = absurd ends
day_given works shows closing course options sink o (Some Read) ends = absurd ends
day_given works shows closing course options sink o (Some Write) ends = is_given o ends.day ends.given
day_given works shows closing course options sink o (Some Memory) ends = is_given o ends.day ends.given
day_given works shows closing course options sink o (Some (Check window place name)) ends = absurd ends
day_given works shows closing course options sink o (Some (Cross window run follow)) ends = absurd ends
day_given works shows closing course options sink o (Some Disk) ends = absurd ends
day_given works shows closing course options sink o (Some (Damaged slot)) ends = absurd ends

-- .. that is kept
pub kept_given : {D : Type 0} (works : WindowWay) (shows : D → Shown) (course : DayCourse) (options : Options) (sink : Writes) (o : Option (Day D)) (fault : Option Fault)
    → KeptDayEnds works shows course options sink o fault → o ≢ None
kept_given works shows course options sink o None ends = is_given o ends.day ends.given
kept_given works shows course options sink o (Some (Refuses fault)) ends = absurd ends
kept_given works shows course options sink o (Some Words) ends = absurd ends
kept_given works shows course options sink o (Some Read) ends = absurd ends
kept_given works shows course options sink o (Some Write) ends = is_given o ends.day ends.given
kept_given works shows course options sink o (Some Memory) ends = is_given o ends.day ends.given
kept_given works shows course options sink o (Some (Check window place name)) ends = absurd ends
kept_given works shows course options sink o (Some (Cross window run follow)) ends = absurd ends
kept_given works shows course options sink o (Some Disk) ends = is_given o ends.day ends.given
kept_given works shows course options sink o (Some (Damaged slot)) ends = absurd ends

-- behind which a line was written
pub line_given : {D : Type 0} (line : List ℕ) (sink : Writes) (day : Day D) (after : Option (Day D)) (fault : Option Fault) → LineIsWritten line sink (Some day) after fault → after ≢ None
line_given line sink day after None ends = is_given after day ends.0
line_given line sink day after (Some (Refuses fault)) ends = absurd ends
line_given line sink day after (Some Words) ends = absurd ends
line_given line sink day after (Some Read) ends = absurd ends
line_given line sink day after (Some Write) ends = is_given after day ends.0
line_given line sink day after (Some Memory) ends = is_given after (record { windows = day.windows; devices = None }) ends.0
line_given line sink day after (Some (Check window place name)) ends = absurd ends
line_given line sink day after (Some (Cross window run follow)) ends = absurd ends
line_given line sink day after (Some Disk) ends = absurd ends
line_given line sink day after (Some (Damaged slot)) ends = absurd ends

-- for which memory was wanted
pub starved_given : {D : Type 0} (day after : Option (Day D)) (fault : Option Fault) → HasStarved day after fault → day ≢ None → after ≢ None
starved_given None after fault starved given none = given refl
starved_given (Some day) after fault starved given none = is_given after (record { windows = day.windows; devices = None }) starved.1 none
