-- What a journal keeps, and what a crash leaves of it.
use Rattle.slot_disks.specs.Disks.{LeavesOnly}
use Rattle.home_journal.specs.KeptStates.{kept_states}
use Rattle.home_journal.specs.declared.journals.OpenFault.TheVariants.{Damaged, Failed, NoMemory}
use Rattle.home_journal.specs.declared.journals.OpenFault.{OpenFault}
use Rattle.home_journal.specs.Slots.{body_size}
use Rattle.home_types.specs.HomeStates.{stand_at}
use Rattle.home_types.specs.Kinds.{has_value, kind_at}
use Rattle.home_types.specs.Limits.{most_devices, most_windows}
use Rattle.home_types.specs.declared.kinds.Kind.{Kind}
use Rattle.home_types.specs.declared.worlds.Stand.{Stand}
use Rattle.slot_disks.specs.SlotFiles.{IsSettled}
use Rattle.std.specs.Prelude.{Bool, Err, List, None, Ok, Option, Result, Some, length, if◌then◌else◌, slice_get, take, true, ℕ, ⊤, ◌++◌, ◌-◌, ◌<◌, ◌==◌, ◌≡◌, ◌≤◌, ◌⊎◌}

-- what a contract sees of a journal: its disk, the kinds of the devices, how many states it keeps
-- at most, how many it keeps, and the last of them
pub record JournalState (Q : Type 0) : Type 0 where
  pub disk : Q
  pub kinds : List Kind
  pub most : ℕ
  pub kept : ℕ
  pub last : Option (List Stand)

-- the last one, where there is one
abbrev pub last_kept_home : List (List Stand) → Option (List Stand)
last_kept_home homes = slice_get homes (length homes - 1)

-- the state that is known as the last, where some are kept
abbrev pub last_kept : ℕ → List Stand → Option (List Stand)
last_kept count home = if count == 0 then None else Some home

-- of the states that the file keeps there are so many, and this is the last
pub record KnowsKept (kinds : List Kind) (most : ℕ) (bytes : List ℕ) (count : ℕ)
    (final : Option (List Stand)) : Type 0 where
  pub homes : List (List Stand)
  pub kept : kept_states kinds most bytes ≡ Ok homes
  pub counts : count ≡ length homes
  pub last : final ≡ last_kept_home homes

-- a device of each kind stands there, at a value of its kind
pub record IsStateOf (kinds : List Kind) (home : List Stand) : Type 0 where
  pub devices : length home ≡ length kinds
  pub values : (d : ℕ) → d < length kinds
      → has_value (kind_at kinds d) (stand_at home d).value ≡ true

-- the states that the journal's file keeps
abbrev pub states_kept : {Q : Type 0} → (Q → List ℕ) → JournalState Q → Result (List (List Stand)) ℕ
states_kept seen j = kept_states j.kinds j.most (seen j.disk)

-- the disk that a call hands back, in a journal or beside an error
abbrev pub disk_of : {Q E : Type 0} → Result (JournalState Q) (Q × E) → Q
disk_of (Ok j) = j.disk
disk_of (Err e) = e.0

-- where states were kept, these are kept behind them
abbrev pub AddsStates : Result (List (List Stand)) ℕ → Result (List (List Stand)) ℕ
    → List (List Stand) → Type 0
AddsStates old new added = (homes : List (List Stand)) → old ≡ Ok homes → new ≡ Ok (homes ++ added)

-- the file keeps these states, and behind them the first of the new ones, in order
abbrev pub KeepsFirst : List Kind → ℕ → List (List Stand) → List (List Stand) → List ℕ → Type 0
KeepsFirst kinds most homes added c =
    (i : ℕ) × (kept_states kinds most c ≡ Ok (homes ++ take i added))

-- a crash at any moment since the journal was so leaves the states that it kept, and behind them
-- the first of these
abbrev pub LeavesFirst : {Q : Type 0} → (Q → List ℕ) → (Q → ℕ) → (Q → ℕ → List ℕ → Type 0)
    → JournalState Q → Q → List (List Stand) → Type 0
LeavesFirst seen moment since old new added =
    (homes : List (List Stand))
    → states_kept seen old ≡ Ok homes
    → LeavesOnly moment since old.disk new (KeepsFirst old.kinds old.most homes added)

-- a crash at any moment since the disk was so leaves one of its images, or what keeps what it kept
abbrev pub LeavesOldOrSame : {Q : Type 0} → (Q → List ℕ) → (Q → List ℕ → Type 0) → (Q → ℕ)
    → (Q → ℕ → List ℕ → Type 0) → List Kind → ℕ → Q → Q → Type 0
LeavesOldOrSame seen images moment since kinds most old new =
    LeavesOnly moment since old new
    (λ c. images old c ⊎ (kept_states kinds most c ≡ kept_states kinds most (seen old)))

-- where the fault is damage, the file is damaged first at its slot, and nothing was written
abbrev pub IsDamage : OpenFault → Result (List (List Stand)) ℕ → List ℕ → List ℕ → Type 0
IsDamage (Damaged place) kept old new = (kept ≡ Err place) × (new ≡ old)
IsDamage Failed kept old new = ⊤
IsDamage NoMemory kept old new = ⊤

-- a file of slots is open, of a home with devices of these kinds, and the last state that it keeps
-- is known
pub record IsOpen (kinds : List Kind) (size most count : ℕ) (last : List Stand) (room : ℕ)
    (told : Bool) (seen : List ℕ)
    (images : List ℕ → Type 0) : Type 0 where
  pub sized : size ≡ body_size (length kinds)
  pub devices : length kinds ≤ most_devices
  pub windows : most ≤ most_windows
  pub few : count ≤ most
  pub roomy : size < room
  pub blank : length last ≡ length kinds
  pub of_kinds : 0 < count → IsStateOf kinds last
  pub settled : told ≡ true → IsSettled size most count seen images
  pub knows : told ≡ true → KnowsKept kinds most seen count (last_kept count last)
