-- A home that is made again from its script and the calls that were made on it.
use Rattle.day_clock.specs.declared.times.When.{When}
use Rattle.handed_devices.specs.declared.devices.HandedDevice.{HandedDevice}
use Rattle.history_book.specs.declared.entries.Entry.{Entry}
use Rattle.home_states.specs.DraftRefusals.{first_against_adding, first_against_time}
use Rattle.home_states.specs.Drafts.{HasLost, HasRestood, first_against_losing, first_against_restanding}
use Rattle.home_states.specs.Joinings.{HasTakenRun}
use Rattle.home_states.specs.LiveHomes.{BeginsAs, IsBetweenWindows, IsLive, LiveState, hub_in}
use Rattle.home_states.specs.Openings.{HasClosed, HasOpened, first_against_opening}
use Rattle.home_states.specs.Steps.{HasAnswered, HasProbed, HasTaken, first_against_answer}
use Rattle.home_states.specs.declared.homes.Phase.TheVariants.{Between, InWindow, Moving}
use Rattle.home_states.specs.declared.homes.Phase.{Phase}
use Rattle.home_states.specs.declared.refusals.NotBegun.TheVariants.{BadTime, InWindow as IsInWindow, NoMemory}
use Rattle.home_states.specs.declared.refusals.NotBegun.{NotBegun}
use Rattle.home_states.specs.declared.refusals.NotMade.{NotMade}
use Rattle.home_states.specs.declared.refusals.NotOpened.{NotOpened}
use Rattle.home_types.specs.declared.modes.Mode.{Mode}
use Rattle.hub_core.specs.OpenHubs.{OpenHub, configuration_of}
use Rattle.hub_core.specs.Steps.{may_probe, not_quiet}
use Rattle.hub_table.specs.Tables.{SlipAndTask, StoodInOrder, TookInOrder}
use Rattle.hub_table.specs.declared.told.Taken.TheVariants.{Absent, Moved, Out, Over, Waits}
use Rattle.hub_table.specs.declared.told.Taken.{Taken}
use Rattle.live_scripts.specs.Growth.{HasBegun}
use Rattle.live_scripts.specs.Reasons.{IsRefusedFor}
use Rattle.logged_calls.specs.declared.calls.Logged.TheVariants.{Added, Began, Closed, Gave, Lost, Opened, Probed, Restood, Took}
use Rattle.logged_calls.specs.declared.calls.Logged.{Logged}
use Rattle.routine_reader.specs.declared.scripts.Script.{Script}
use Rattle.std.specs.Prelude.{Bool, IfSome, List, None, Option, Some, [], is_none, is_some, not, slice_get, take, true, ℕ, ⊤, ◌∷◌, ◌≡◌, ◌≤◌}

-- a window without runs is the last one of the script, at this time
pub record HasBegunAt (s : LiveState) (at : When) (probes k : ℕ) (t : LiveState) : Type 0 where
  pub script : Script
  pub between : IsBetweenWindows s
  pub begun : HasBegun s.script at probes k script
  pub is : t ≡ record s { script = script; is_draft = true; closed = None }

-- the first reason against it
abbrev pub first_against_begin : LiveState → When → ℕ → Option NotBegun
first_against_begin s at probes = by_phase s.phase
  where
    by_phase : Phase → Option NotBegun
    by_phase (Between home) = first_against_time s.script (Some at) probes
    by_phase (InWindow k hub) = Some IsInWindow
    by_phase Moving = Some IsInWindow

-- why it is not begun
abbrev pub MayNotBeginAt : LiveState → When → ℕ → NotBegun → Type 0
MayNotBeginAt s at probes why = IsRefusedFor NoMemory (first_against_begin s at probes) why

-- the first reason where the time is none
abbrev pub why_no_time : LiveState → NotBegun
why_no_time s = by_phase s.phase
  where
    by_phase : Phase → NotBegun
    by_phase (Between home) = BadTime
    by_phase (InWindow k hub) = IsInWindow
    by_phase Moving = IsInWindow

-- a device that goes out, and is counted up, stood where the order of the open window has it
abbrev pub StepsInOrder : LiveState → Taken → Type 0
StepsInOrder s taken = IfSome (hub_in s) (λ hub. TookInOrder hub taken)

abbrev pub ProbesInOrder : LiveState → SlipAndTask → Type 0
ProbesInOrder s out = IfSome (hub_in s) (λ hub. StoodInOrder hub out.0 out.1)

-- the run made its step
pub record HasStepped (s : LiveState) (r m : ℕ) (t : LiveState) : Type 0 where
  pub taken : Taken
  pub made : HasTaken s r m taken t
  pub stood : StepsInOrder s taken

-- a probe went out to the device
pub record HasSentProbe (s : LiveState) (d : ℕ) (t : LiveState) : Type 0 where
  pub out : SlipAndTask
  pub made : HasProbed s d (Some out) t
  pub stood : ProbesInOrder s out

-- the call was made on the home, and was not refused
abbrev pub WasMade : LiveState → Logged → LiveState → Type 0
WasMade s (Began at rounds) t = (k : ℕ) × HasBegunAt s at rounds k t
WasMade s (Added routine follows) t = (r : ℕ) × HasTakenRun s routine follows r t
WasMade s (Opened number) t = HasOpened s number t
WasMade s (Took run moment) t = HasStepped s run.0 moment t
WasMade s (Gave device ticket told moment) t =
    (made : List Entry) × HasAnswered s device.0 ticket told moment made t
WasMade s (Probed device) t = HasSentProbe s device.0 t
WasMade s Closed t = HasClosed s t
WasMade s (Restood device value) t = HasRestood s device.0 value t
WasMade s (Lost device) t = HasLost s device.0 t

-- no probe of the device goes out, and the window is not closed
abbrev pub sends_no_probe : Option (OpenHub HandedDevice) → ℕ → Bool
sends_no_probe None d = true
sends_no_probe (Some hub) d = not (may_probe (configuration_of hub) d)

abbrev pub stays_open : Option (OpenHub HandedDevice) → Bool
stays_open None = true
stays_open (Some hub) = is_some (not_quiet (configuration_of hub))

-- there is a reason against the call
abbrev pub is_refused : LiveState → Logged → Bool
is_refused s (Began at rounds) = is_some (first_against_begin s at rounds)
is_refused s (Added routine follows) = is_some (first_against_adding s routine follows)
is_refused s (Opened number) = is_some (first_against_opening s number)
is_refused s (Took run moment) = is_none (hub_in s)
is_refused s (Gave device ticket told moment) =
    is_some (first_against_answer s device.0 ticket told)
is_refused s (Probed device) = sends_no_probe (hub_in s) device.0
is_refused s Closed = stays_open (hub_in s)
is_refused s (Restood device value) = is_some (first_against_restanding s device.0 value)
is_refused s (Lost device) = is_some (first_against_losing s device.0)

-- what it comes to that a window is not begun, a run not added, or a window not opened
abbrev pub draft_not_made : NotBegun → NotMade
draft_not_made NoMemory = NotMade.NoMemory
draft_not_made why = NotMade.Refused

abbrev pub opening_not_made : NotOpened → NotMade
opening_not_made NotOpened.NoMemory = NotMade.NoMemory
opening_not_made why = NotMade.Refused

-- the calls were made, one after the other
abbrev pub WereMade : LiveState → List Logged → LiveState → Type 0
WereMade s [] t = t ≡ s
WereMade s (call ∷ calls) t = (u : LiveState) × WasMade s call u × WereMade u calls t

-- the calls before this place were made, and the one there is refused
pub record AreRefusedAt (s : LiveState) (calls : List Logged) (at : ℕ) : Type 0 where
  pub before : LiveState
  pub call : Logged
  pub made : WereMade s (take at calls) before
  pub there : slice_get calls at ≡ Some call
  pub refused : is_refused before call ≡ true

-- the home of this script, in this mode, on which these calls were made
pub record IsRebuilt (script : List ℕ) (mode : Mode) (calls : List Logged)
    (t : LiveState) : Type 0 where
  pub first : LiveState
  pub begins : BeginsAs script mode first
  pub live : IsLive first
  pub made : WereMade first calls t

-- the call at this place is refused by the home of the script
pub record IsRefusedAt (script : List ℕ) (mode : Mode) (calls : List Logged)
    (at : ℕ) : Type 0 where
  pub first : LiveState
  pub begins : BeginsAs script mode first
  pub live : IsLive first
  pub refused : AreRefusedAt first calls at

-- Steps that wait

-- the step did nothing: the run waits, or is none of the window
abbrev pub DidNothing : Taken → Type 0
DidNothing (Out slip task) = ⊥
DidNothing (Moved made) = ⊥
DidNothing (Waits why) = ⊤
DidNothing (Over end made) = ⊥
DidNothing Absent = ⊤

pub record HasWaited (s : LiveState) (r m : ℕ) (t : LiveState) : Type 0 where
  pub taken : Taken
  pub made : HasTaken s r m taken t
  pub nothing : DidNothing taken

-- the call is made at no moment before this one
abbrev pub IsFrom : ℕ → Logged → Type 0
IsFrom from (Began at rounds) = ⊤
IsFrom from (Added routine follows) = ⊤
IsFrom from (Opened number) = ⊤
IsFrom from (Took run moment) = from ≤ moment
IsFrom from (Gave device ticket told moment) = from ≤ moment
IsFrom from (Probed device) = ⊤
IsFrom from Closed = ⊤
IsFrom from (Restood device value) = ⊤
IsFrom from (Lost device) = ⊤

abbrev pub AreFrom : ℕ → List Logged → Type 0
AreFrom from [] = ⊤
AreFrom from (call ∷ calls) = IsFrom from call × AreFrom from calls
