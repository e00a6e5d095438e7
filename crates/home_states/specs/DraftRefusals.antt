-- Why no window is begun, and no run is added to it.
use Rattle.day_clock.specs.declared.times.When.{When}
use Rattle.home_states.specs.Drafts.{time_told}
use Rattle.home_states.specs.LiveHomes.{LiveState}
use Rattle.home_states.specs.declared.homes.Phase.TheVariants.{Between, InWindow, Moving}
use Rattle.home_states.specs.declared.homes.Phase.{Phase}
use Rattle.home_states.specs.declared.refusals.NotBegun.TheVariants.{Absent, BadFollow, BadTime, InWindow as IsInWindow, NoDraft, NoMemory, TooMany}
use Rattle.home_states.specs.declared.refusals.NotBegun.{NotBegun}
use Rattle.home_types.specs.declared.numbers.RunNo.{RunNo}
use Rattle.live_scripts.specs.Growth.{first_against_run, first_against_window}
use Rattle.live_scripts.specs.Reasons.{IsRefusedFor}
use Rattle.live_scripts.specs.declared.refusals.NotAdded.TheVariants.{NoMemory as NoRoom, NoRoutine, NoWindow, NotBefore, TooManyRuns}
use Rattle.live_scripts.specs.declared.refusals.NotAdded.{NotAdded}
use Rattle.live_scripts.specs.declared.refusals.NotBegun.TheVariants.{NoMemory as NoSpace, NotLater, TooManyProbes}
use Rattle.live_scripts.specs.declared.refusals.NotBegun.{NotBegun as NotAppended}
use Rattle.routine_reader.specs.declared.scripts.Script.{Script}
use Rattle.std.specs.Prelude.{List, None, Option, Some, if◌then◌else◌, length, option_map, ℕ, ◌+◌, ◌==◌}

-- what is told of why the script takes no window, or no run
abbrev pub begun_why : NotAppended → NotBegun
begun_why NotLater = BadTime
begun_why TooManyProbes = TooMany
begun_why NoSpace = NoMemory

abbrev pub added_why : NotAdded → NotBegun
added_why NoWindow = NoDraft
added_why NoRoutine = Absent
added_why NotBefore = BadFollow
added_why TooManyRuns = TooMany
added_why NoRoom = NoMemory

-- the first reason against a window at this time, where there is one, with so many rounds of probes
abbrev pub first_against_time : Script → Option When → ℕ → Option NotBegun
first_against_time script None probes = Some BadTime
first_against_time script (Some at) probes =
    option_map begun_why (first_against_window script at probes)

-- .. at the time that the text tells
abbrev pub first_against_beginning : LiveState → List ℕ → ℕ → Option NotBegun
first_against_beginning s text probes = by_phase s.phase
  where
    by_phase : Phase → Option NotBegun
    by_phase (Between home) = first_against_time s.script (time_told text) probes
    by_phase (InWindow k hub) = Some IsInWindow
    by_phase Moving = Some IsInWindow

-- why no window is begun
abbrev pub MayNotBegin : LiveState → List ℕ → ℕ → NotBegun → Type 0
MayNotBegin s text probes why =
    IsRefusedFor NoMemory (first_against_beginning s text probes) why

-- the first reason against a run of the script's last window
abbrev pub first_against_last : Script → ℕ → Option RunNo → Option NotBegun
first_against_last script routine follows =
    option_map added_why (first_against_run script routine follows)

-- .. where it is the one of this number, which is open
abbrev pub first_against_joining : Script → ℕ → ℕ → Option RunNo → Option NotBegun
first_against_joining script k routine follows =
    if length script.windows.items == k + 1 then first_against_last script routine follows
    else Some NoDraft

-- .. and against one of the window that was begun, or that is open
abbrev pub first_against_adding : LiveState → ℕ → Option RunNo → Option NotBegun
first_against_adding s routine follows = by_phase s.phase
  where
    by_phase : Phase → Option NotBegun
    by_phase (Between home) =
        if s.is_draft then first_against_last s.script routine follows else Some NoDraft
    by_phase (InWindow k hub) = first_against_joining s.script k routine follows
    by_phase Moving = Some NoDraft

-- why no run joins the window of this number
abbrev pub CannotJoin : Script → ℕ → ℕ → Option RunNo → NotBegun → Type 0
CannotJoin script k routine follows why =
    IsRefusedFor NoMemory (first_against_joining script k routine follows) why

-- why no run is added
abbrev pub MayNotAdd : LiveState → ℕ → Option RunNo → NotBegun → Type 0
MayNotAdd s routine follows why =
    IsRefusedFor NoMemory (first_against_adding s routine follows) why
