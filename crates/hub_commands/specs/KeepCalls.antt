-- How a call ends that keeps the states of a day: by what its words asked for, what was read,
-- played, written and kept.
use Rattle.command_words.specs.declared.command_lines.Options.{Options}
use Rattle.device_states.specs.Devices.{Shown}
use Rattle.home_journal.specs.Journals.{JournalState, KnowsKept, LeavesOldOrSame, states_kept}
use Rattle.home_journal.specs.KeptStates.{kept_states}
use Rattle.home_journal.specs.declared.journals.OpenFault.TheVariants.{Damaged as HasDamage, Failed, NoMemory}
use Rattle.home_journal.specs.declared.journals.OpenFault.{OpenFault}
use Rattle.home_types.specs.declared.worlds.Stand.{Stand}
use Rattle.hub_commands.specs.Finishes.{IsRead, NoScriptIsRead, NothingIsPlayed, Reads, WordsAreRefused, Writes}
use Rattle.hub_commands.specs.KeptDays.{HasEndedBehind}
use Rattle.hub_commands.specs.Ways.{IsReplayOf}
use Rattle.hub_commands.specs.declared.faults.Fault.TheVariants.{Check, Cross, Damaged, Disk, Memory, Read, Script as Refuses, Words, Write}
use Rattle.hub_commands.specs.declared.faults.Fault.{Fault}
use Rattle.hub_commands.specs.declared.finishes.Day.{Day}
use Rattle.routine_reader.specs.Rosters.{kinds_of}
use Rattle.routine_reader.specs.declared.scripts.Script.{Script}
use Rattle.std.specs.Prelude.{Bool, Err, List, None, Ok, Option, Result, Some, length, min, true, ℕ, ◌+◌, ◌-◌, ◌<◌, ◌^◌, ◌≡◌, ◌≤◌, ◌⊎◌}

-- why a call ends where the journal is not opened; a slot is counted from 1, as far as its number
-- goes
abbrev pub opening_fault : OpenFault → Fault
opening_fault NoMemory = Memory
opening_fault Failed = Disk
opening_fault (HasDamage place) = Damaged (min (place + 1) (2 ^ 32 - 1))

-- the journal of the script's home was opened on the disk, and keeps what it kept
pub record IsJournalOpened {Q : Type 0} (told : Bool) (seen : Q → List ℕ)
    (images : Q → List ℕ → Type 0) (moment : Q → ℕ) (since : Q → ℕ → List ℕ → Type 0)
    (failures : Q → ℕ) (script : Script) (disk : Q) (journal : JournalState Q) : Type 0 where
  pub kinds : journal.kinds ≡ kinds_of script
  pub most : journal.most ≡ length script.windows.items
  pub knows : told ≡ true → KnowsKept (kinds_of script) (length script.windows.items)
      (seen disk) journal.kept journal.last
  pub same : told ≡ true → states_kept seen journal
      ≡ kept_states (kinds_of script) (length script.windows.items) (seen disk)
  pub later : failures disk ≤ failures journal.disk
  pub any_moment : told ≡ true → LeavesOldOrSame seen images moment since (kinds_of script)
      (length script.windows.items) disk journal.disk

-- the disk failed as the journal was opened: a crash leaves one of the images that there were, or
-- what keeps the same
pub record JournalFails {Q : Type 0} (told : Bool) (seen : Q → List ℕ)
    (images : Q → List ℕ → Type 0) (moment : Q → ℕ) (since : Q → ℕ → List ℕ → Type 0)
    (failures : Q → ℕ) (script : Script) (disk now : Q) : Type 0 where
  pub failed : failures disk < failures now
  pub any_moment : told ≡ true → LeavesOldOrSame seen images moment since (kinds_of script)
      (length script.windows.items) disk now

-- the journal is damaged first at this slot, counted from 1, and nothing was written on its disk
pub record JournalIsDamaged {Q : Type 0} (told : Bool) (seen : Q → List ℕ)
    (images : Q → List ℕ → Type 0) (moment : Q → ℕ) (since : Q → ℕ → List ℕ → Type 0)
    (script : Script) (disk now : Q) (slot : ℕ) : Type 0 where
  pub place : ℕ
  pub from_one : told ≡ true → slot ≡ place + 1
  pub damaged : told ≡ true
      → kept_states (kinds_of script) (length script.windows.items) (seen disk) ≡ Err place
  pub same : told ≡ true → seen now ≡ seen disk
  pub any_moment : told ≡ true → LeavesOldOrSame seen images moment since (kinds_of script)
      (length script.windows.items) disk now

-- what came of the opening
abbrev pub JournalIsOpened : {Q : Type 0} → Bool → (Q → List ℕ) → (Q → List ℕ → Type 0) → (Q → ℕ)
    → (Q → ℕ → List ℕ → Type 0) → (Q → ℕ) → Script → Q
    → Result (JournalState Q) (Q × Fault) → Type 0
JournalIsOpened told seen images moment since failures script disk (Ok journal) =
    IsJournalOpened told seen images moment since failures script disk journal
JournalIsOpened told seen images moment since failures script disk (Err (now, Refuses fault)) = ⊥
JournalIsOpened told seen images moment since failures script disk (Err (now, Words)) = ⊥
JournalIsOpened told seen images moment since failures script disk (Err (now, Read)) = ⊥
JournalIsOpened told seen images moment since failures script disk (Err (now, Write)) = ⊥
JournalIsOpened told seen images moment since failures script disk (Err (now, Memory)) = now ≡ disk
JournalIsOpened told seen images moment since failures script disk
    (Err (now, Check window place name)) = ⊥
JournalIsOpened told seen images moment since failures script disk
    (Err (now, Cross window run follow)) = ⊥
JournalIsOpened told seen images moment since failures script disk (Err (now, Disk)) =
    JournalFails told seen images moment since failures script disk now
JournalIsOpened told seen images moment since failures script disk (Err (now, Damaged slot)) =
    JournalIsDamaged told seen images moment since script disk now slot

-- the day of the script goes on behind the states that the disk keeps: so many, of which this is
-- the last
pub record DayGoesOn {D Q : Type 0} (shows : D → Shown) (told : Bool) (seen : Q → List ℕ)
    (images : Q → List ℕ → Type 0) (moment : Q → ℕ) (since : Q → ℕ → List ℕ → Type 0)
    (failures : Q → ℕ) (script : Script) (options : Options) (sink : Writes) (disk now : Q)
    (day : Option (Day D)) (fault : Option Fault) : Type 0 where
  pub kept : ℕ
  pub last : Option (List Stand)
  pub knows : told ≡ true
      → KnowsKept (kinds_of script) (length script.windows.items) (seen disk) kept last
  pub ended : HasEndedBehind IsReplayOf shows told seen images moment since failures script kept
      last options sink disk now day fault

-- the journal was not opened, for this fault, and nothing was played or written
pub record NoJournalIsOpened {D Q : Type 0} (told : Bool) (seen : Q → List ℕ)
    (images : Q → List ℕ → Type 0) (moment : Q → ℕ) (since : Q → ℕ → List ℕ → Type 0)
    (failures : Q → ℕ) (script : Script) (sink : Writes) (disk now : Q) (day : Option (Day D))
    (fault : Option Fault) : Type 0 where
  pub why : Fault
  pub is : fault ≡ Some why
  pub opening : JournalIsOpened told seen images moment since failures script disk (Err (now, why))
  pub nothing : NothingIsPlayed sink day

-- how the call ends once its script is read
abbrev pub ScriptIsKept : {D Q : Type 0} → (D → Shown) → Bool → (Q → List ℕ) → (Q → List ℕ → Type 0)
    → (Q → ℕ) → (Q → ℕ → List ℕ → Type 0) → (Q → ℕ) → Script → Options → Writes → Q → Q
    → Option (Day D) → Option Fault → Type 0
ScriptIsKept shows told seen images moment since failures script options sink disk now day fault =
    NoJournalIsOpened told seen images moment since failures script sink disk now day fault
    ⊎ DayGoesOn shows told seen images moment since failures script options sink disk now day fault

-- the script was read, and its day is kept
pub record DayIsKept {D Q : Type 0} (shows : D → Shown) (told : Bool) (seen : Q → List ℕ)
    (images : Q → List ℕ → Type 0) (moment : Q → ℕ) (since : Q → ℕ → List ℕ → Type 0)
    (failures : Q → ℕ) (options : Options) (source : Reads) (sink : Writes) (disk now : Q)
    (day : Option (Day D)) (fault : Option Fault) : Type 0 where
  pub script : Script
  pub read : IsRead source script
  pub ends : ScriptIsKept shows told seen images moment since failures script options sink
      disk now day fault

-- how the call ends, by the options that its words ask for, if they are of the command; where no
-- script is read the disk is not called
abbrev pub KeepEnds : {D Q : Type 0} → (D → Shown) → Bool → (Q → List ℕ) → (Q → List ℕ → Type 0)
    → (Q → ℕ) → (Q → ℕ → List ℕ → Type 0) → (Q → ℕ) → Option Options → Reads → Writes → Q → Q
    → Option (Day D) → Option Fault → Type 0
KeepEnds shows told seen images moment since failures None source sink disk now day fault =
    WordsAreRefused source fault × NothingIsPlayed sink day × (now ≡ disk)
KeepEnds shows told seen images moment since failures
    (Some options) source sink disk now day fault =
    (NoScriptIsRead source fault × NothingIsPlayed sink day × (now ≡ disk))
    ⊎ DayIsKept shows told seen images moment since failures options source sink disk now day fault
