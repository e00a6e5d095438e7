-- Why a call of a C program does nothing, and the status that tells it.
use Rattle.home_states.specs.DraftRefusals.{MayNotAdd, MayNotBegin}
use Rattle.home_states.specs.Drafts.{MayNotLose, MayNotRestand}
use Rattle.home_states.specs.LiveHomes.{IsBetweenWindows, LiveState}
use Rattle.home_states.specs.Openings.{MayNotClose, MayNotOpen}
use Rattle.home_states.specs.Queries.{MayNotTellFinal, MayNotTellLent}
use Rattle.home_states.specs.Readings.{MayNotStand}
use Rattle.home_states.specs.Steps.{HasProbed, IsNoAnswer}
use Rattle.home_states.specs.declared.refusals.NotAnswered.TheVariants.{NoWindow as NoWindowForAnswer, NotTaken as Refused}
use Rattle.home_states.specs.declared.refusals.NotAnswered.{NotAnswered}
use Rattle.home_states.specs.declared.refusals.NotBegun.TheVariants.{Absent as NoRoutine, BadFollow, BadTime, InWindow as InOpenWindow, NoDraft, NoMemory as NoRoom, TooMany as TooManyRuns}
use Rattle.home_states.specs.declared.refusals.NotBegun.{NotBegun}
use Rattle.home_states.specs.declared.refusals.NotClosed.TheVariants.{NoWindow, NotQuiet}
use Rattle.home_states.specs.declared.refusals.NotClosed.{NotClosed}
use Rattle.home_states.specs.declared.refusals.NotFinal.TheVariants.{Absent as NoItem, NoWindow as NoneForItem}
use Rattle.home_states.specs.declared.refusals.NotFinal.{NotFinal}
use Rattle.home_states.specs.declared.refusals.NotLent.TheVariants.{Absent as NoneToLend, IsHome, NoWindow as NoneForLent}
use Rattle.home_states.specs.declared.refusals.NotLent.{NotLent}
use Rattle.home_states.specs.declared.refusals.NotLost.TheVariants.{Absent as NoneToLose, InWindow as LostInWindow}
use Rattle.home_states.specs.declared.refusals.NotLost.{NotLost}
use Rattle.home_states.specs.declared.refusals.NotOpened.TheVariants.{Absent, InWindow, NoMemory, TooMany}
use Rattle.home_states.specs.declared.refusals.NotOpened.{NotOpened}
use Rattle.home_states.specs.declared.refusals.NotRestood.TheVariants.{Absent as NoDevice, InWindow as RestoodInWindow, NoValue}
use Rattle.home_states.specs.declared.refusals.NotRestood.{NotRestood}
use Rattle.home_states.specs.declared.refusals.NotStanding.TheVariants.{Absent as NoStand, InWindow as StandsInWindow}
use Rattle.home_states.specs.declared.refusals.NotStanding.{NotStanding}
use Rattle.home_states.specs.declared.refusals.NotTold.TheVariants.{Absent as NoSubject, NoMemory as NoSpace}
use Rattle.home_states.specs.declared.refusals.NotTold.{NotTold}
use Rattle.home_states.specs.Texts.{MayNotTellEntry, MayNotTellWindow}
use Rattle.home_types.specs.declared.numbers.RunNo.{RunNo}
use Rattle.device_gate.specs.declared.slips.Told.{Told}
use Rattle.hub_table.specs.declared.told.NotTaken.TheVariants.{Differs, NotOut, OtherKind}
use Rattle.hub_table.specs.declared.told.NotTaken.{NotTaken}
use Rattle.routine_reader.specs.Spots.{is_memory}
use Rattle.routine_reader.specs.declared.faults.ReadFault.{ReadFault}
use Rattle.std.specs.Prelude.{List, None, Option, if◌then◌else◌, pos, ℕ, ℤ, ◌≡◌, ◌⊎◌}

-- for this reason, which the status tells
pub record TellsReason {W : Type 0} (status_of : W → ℤ) (is_so : W → Type 0)
    (status : ℤ) : Type 0 where
  pub why : W
  pub so : is_so why
  pub told : status ≡ status_of why

-- of a script that is not read: there is no memory, or it is refused
abbrev pub refusal_status : ReadFault → ℤ
refusal_status why = (if is_memory why then pos 5 else pos 3)

abbrev pub opening_status : NotOpened → ℤ
opening_status InWindow = pos 6
opening_status Absent = pos 8
opening_status TooMany = pos 9
opening_status NoMemory = pos 5

abbrev pub closing_status : NotClosed → ℤ
closing_status NoWindow = pos 7
closing_status (NotQuiet left) = pos 14

abbrev pub taking_status : NotTaken → ℤ
taking_status NotOut = pos 10
taking_status OtherKind = pos 11
taking_status Differs = pos 12

abbrev pub answer_status : NotAnswered → ℤ
answer_status NoWindowForAnswer = pos 7
answer_status (Refused why) = taking_status why

abbrev pub draft_status : NotBegun → ℤ
draft_status InOpenWindow = pos 6
draft_status NoDraft = pos 7
draft_status BadTime = pos 16
draft_status NoRoutine = pos 8
draft_status BadFollow = pos 17
draft_status TooManyRuns = pos 9
draft_status NoRoom = pos 5

abbrev pub restanding_status : NotRestood → ℤ
restanding_status RestoodInWindow = pos 6
restanding_status NoDevice = pos 8
restanding_status NoValue = pos 18

abbrev pub losing_status : NotLost → ℤ
losing_status LostInWindow = pos 6
losing_status NoneToLose = pos 8

abbrev pub lent_status : NotLent → ℤ
lent_status NoneForLent = pos 7
lent_status NoneToLend = pos 8
lent_status IsHome = pos 10

abbrev pub final_status : NotFinal → ℤ
final_status NoneForItem = pos 7
final_status NoItem = pos 8

abbrev pub standing_status : NotStanding → ℤ
standing_status StandsInWindow = pos 6
standing_status NoStand = pos 8

abbrev pub record_status : NotTold → ℤ
record_status NoSubject = pos 15
record_status NoSpace = pos 5

abbrev pub entry_status : NotTold → ℤ
entry_status NoSubject = pos 8
entry_status NoSpace = pos 5

-- the window of this number is not opened
abbrev pub IsNotOpened : LiveState → ℕ → ℤ → Type 0
IsNotOpened s k status = TellsReason opening_status (λ why. MayNotOpen s k why) status

-- the window is not closed
abbrev pub IsNotClosed : LiveState → ℤ → Type 0
IsNotClosed s status = TellsReason closing_status (λ why. MayNotClose s why) status

-- no step is made, and nothing is asked of a window, where none is open
abbrev pub IsNotInWindow : LiveState → ℤ → Type 0
IsNotInWindow s status = (status ≡ pos 7) × IsBetweenWindows s

-- the answer is not taken
abbrev pub IsNotAnswered : LiveState → ℕ → ℕ → Told → ℤ → Type 0
IsNotAnswered s d ticket told status =
    TellsReason answer_status (λ why. IsNoAnswer s d ticket told why) status

-- no probe goes out
abbrev pub IsNotSent : LiveState → ℕ → ℤ → Type 0
IsNotSent s d status = IsNotInWindow s status ⊎ ((status ≡ pos 13) × HasProbed s d None s)

-- no window is begun
abbrev pub IsNotBegun : LiveState → List ℕ → ℕ → ℤ → Type 0
IsNotBegun s text probes status =
    TellsReason draft_status (λ why. MayNotBegin s text probes why) status

-- no run is added
abbrev pub IsNotAdded : LiveState → ℕ → Option RunNo → ℤ → Type 0
IsNotAdded s routine follows status =
    TellsReason draft_status (λ why. MayNotAdd s routine follows why) status

-- the home is not told where the device was found
abbrev pub IsNotRestood : LiveState → ℕ → ℕ → ℤ → Type 0
IsNotRestood s d value status =
    TellsReason restanding_status (λ why. MayNotRestand s d value why) status

-- the home is not told that the device is lost
abbrev pub IsNotLost : LiveState → ℕ → ℤ → Type 0
IsNotLost s d status = TellsReason losing_status (λ why. MayNotLose s d why) status

-- it is not told with what the device is out
abbrev pub IsNotLent : LiveState → ℕ → ℤ → Type 0
IsNotLent s d status = TellsReason lent_status (λ why. MayNotTellLent s d why) status

-- no final item is told
abbrev pub IsNotFinal : LiveState → ℕ → ℤ → Type 0
IsNotFinal s at status = TellsReason final_status (λ why. MayNotTellFinal s at why) status

-- the text of the window closed last is not made
abbrev pub IsNoRecord : LiveState → ℤ → Type 0
IsNoRecord s status = TellsReason record_status (λ why. MayNotTellWindow s why) status

-- the text of the entry at this place is not made
abbrev pub IsNoEntryText : LiveState → ℕ → ℤ → Type 0
IsNoEntryText s at status =
    TellsReason entry_status (λ why. MayNotTellEntry s at why) status

-- it is not told how the device stands
abbrev pub IsNotStanding : LiveState → ℕ → ℤ → Type 0
IsNotStanding s d status = TellsReason standing_status (λ why. MayNotStand s d why) status
