-- A log of calls, and what a crash leaves of it.
use Rattle.call_log.specs.KeptCalls.{kept_calls}
use Rattle.call_log.specs.declared.faults.LogFault.TheVariants.{Failed, NoMemory}
use Rattle.call_log.specs.declared.faults.LogFault.{LogFault}
use Rattle.call_log.specs.declared.heads.Head.{Head}
use Rattle.slot_disks.specs.Disks.{LeavesOnly}
use Rattle.slot_disks.specs.SlotFiles.{IsSettled, slots_of}
use Rattle.logged_calls.specs.CallBytes.{call_bytes, call_size}
use Rattle.logged_calls.specs.Calls.{IsLoggable}
use Rattle.logged_calls.specs.declared.calls.Logged.{Logged}
use Rattle.std.specs.Prelude.{All, Bool, Err, List, Ok, Result, [], length, map, true, ℕ, ◌++◌, ◌+◌, ◌<◌, ◌∷◌, ◌≡◌, ◌≢◌, ◌≤◌, ◌⊎◌}

-- what a contract sees of a log: its disk, its head, how many calls it keeps at most and how many
-- of them are on the disk; the calls that were appended since; the drives and the reports that it
-- holds back; and the disk as it was when some were last let out, or when the log was begun
pub record LogState (Q D R : Type 0) : Type 0 where
  pub disk : Q
  pub head : Head
  pub most : ℕ
  pub kept : ℕ
  pub pending : List Logged
  pub drives : List D
  pub reports : List R
  pub let_out : Q

-- the calls that the log's file keeps
abbrev pub calls_kept : {Q D R : Type 0} → (Q → List ℕ) → LogState Q D R
    → Result (List Logged) LogFault
calls_kept seen log = kept_calls log.head log.most (seen log.disk)

-- the disk that a call hands back, in a log or beside an error
abbrev pub disk_of : {Q D R E : Type 0} → Result (LogState Q D R) (Q × E) → Q
disk_of (Ok log) = log.disk
disk_of (Err e) = e.0

abbrev pub opened_disk : {Q D R X E : Type 0} → Result (LogState Q D R × X) (Q × E) → Q
opened_disk (Ok opened) = opened.0.disk
opened_disk (Err e) = e.0

-- where calls were kept, these are kept after them
abbrev pub AddsCalls : Result (List Logged) LogFault → Result (List Logged) LogFault
    → List Logged → Type 0
AddsCalls old new added = (calls : List Logged) → old ≡ Ok calls → new ≡ Ok (calls ++ added)

-- the file keeps these calls, or these and all of the new ones
abbrev pub KeepsCalls : Head → ℕ → List Logged → List Logged → List ℕ → Type 0
KeepsCalls head most calls added c =
    (kept_calls head most c ≡ Ok calls) ⊎ (kept_calls head most c ≡ Ok (calls ++ added))

-- a crash at any moment leaves the calls that were kept, or these and all of the new ones
abbrev pub LeavesCalls : {D : Type 0} → (D → List ℕ) → (D → ℕ) → (D → ℕ → List ℕ → Type 0)
    → Head → ℕ → D → D → List Logged → Type 0
LeavesCalls seen moment since head most old new added =
    (calls : List Logged) → kept_calls head most (seen old) ≡ Ok calls
    → LeavesOnly moment since old new (KeepsCalls head most calls added)

-- the file keeps no call
abbrev pub LeavesNone : Head → ℕ → List ℕ → Type 0
LeavesNone head most c = kept_calls head most c ≡ Ok []

-- a crash leaves one of these, or what keeps the same calls as this file
abbrev pub LeavesOldOrSame : (List ℕ → Type 0) → Head → ℕ → List ℕ → List ℕ → Type 0
LeavesOldOrSame images head most old c =
    images c ⊎ (kept_calls head most c ≡ kept_calls head most old)

-- a crash leaves what keeps the same calls as this file, or a log with the new head and no calls
abbrev pub IsSameOrNew : Head → Head → ℕ → List ℕ → List ℕ → Type 0
IsSameOrNew old_head head most old c =
    (kept_calls old_head most c ≡ kept_calls old_head most old)
    ⊎ (kept_calls head most c ≡ Ok [])

-- whatever head the log had, a crash leaves it with the same calls, or one with the new head and
-- no calls
abbrev pub LeavesSameOrNew : {D : Type 0} → (D → List ℕ) → (D → ℕ) → (D → ℕ → List ℕ → Type 0)
    → Head → ℕ → D → D → Type 0
LeavesSameOrNew seen moment since head most old new =
    (old_head : Head) → LeavesOnly moment since old new (IsSameOrNew old_head head most (seen old))

-- the file keeps the calls that the older one kept, and perhaps more after them
abbrev pub BeginsWith : Head → ℕ → List ℕ → List ℕ → Type 0
BeginsWith head most old c =
    (calls : List Logged) → kept_calls head most old ≡ Ok calls
    → (more : List Logged) × (kept_calls head most c ≡ Ok (calls ++ more))

-- a crash at any moment since the disk was so leaves all calls that it kept, and so does it now
pub record FindsAll {D : Type 0} (seen : D → List ℕ) (moment : D → ℕ)
    (since : D → ℕ → List ℕ → Type 0) (head : Head) (most : ℕ)
    (old new : D) : Type 0 where
  pub run : LeavesOnly moment since old new (BeginsWith head most (seen old))
  pub now : BeginsWith head most (seen old) (seen new)

-- the slots of these calls, all of them open
abbrev pub call_slots : List Logged → List ℕ
call_slots calls = slots_of (map call_bytes calls)

-- of the calls that the file keeps there are so many
pub record KnowsCalls (head : Head) (most kept : ℕ) (bytes : List ℕ) : Type 0 where
  pub calls : List Logged
  pub are : kept_calls head most bytes ≡ Ok calls
  pub counts : kept ≡ length calls

-- a log is open in the file: so many calls are on the disk, and the slots of those that are pending
-- can be written after them
pub record IsOpenFile (head : Head) (most kept : ℕ) (pending : List Logged) (group : List ℕ)
    (room : ℕ) (told : Bool) (seen : List ℕ)
    (images : List ℕ → Type 0) : Type 0 where
  pub few : kept + length pending ≤ most
  pub slots : group ≡ call_slots pending
  pub roomy : length group < room
  pub wide : call_size + 2 ≤ room
  pub loggable : All IsLoggable pending
  pub settled : told ≡ true → IsSettled call_size (most + 1) (kept + 1) seen images
  pub knows : told ≡ true → KnowsCalls head most kept seen

-- the log has this head, room for so many calls, and nothing that is pending or held back
abbrev pub IsBegun : {Q D R : Type 0} → Head → ℕ → LogState Q D R → Type 0
IsBegun head most log =
    (log.head ≡ head) × (log.most ≡ most) × (log.pending ≡ []) × (log.drives ≡ [])
    × (log.reports ≡ [])
    × (log.let_out ≡ log.disk)

-- one call more is pending
abbrev pub IsAppended : {Q D R : Type 0} → LogState Q D R → Logged → LogState Q D R → Type 0
IsAppended old call new = new ≡ record old { pending = old.pending ++ call ∷ [] }

abbrev pub drive_held : {Q D R : Type 0} → LogState Q D R → D → LogState Q D R
drive_held log drive = record log { drives = log.drives ++ drive ∷ [] }

abbrev pub report_held : {Q D R : Type 0} → LogState Q D R → R → LogState Q D R
report_held log report = record log { reports = log.reports ++ report ∷ [] }

-- all calls are on the disk, and what was held back is there
abbrev pub IsSyncedFrom : {Q D R : Type 0} → LogState Q D R → LogState Q D R → Type 0
IsSyncedFrom old new =
    (new.head ≡ old.head) × (new.most ≡ old.most) × (new.kept ≡ old.kept + length old.pending)
    × (new.pending ≡ [])
    × (new.drives ≡ old.drives)
    × (new.reports ≡ old.reports)
    × (new.let_out ≡ old.let_out)

-- nothing is held back any more
abbrev pub IsLetOut : {Q D R : Type 0} → LogState Q D R → LogState Q D R → Type 0
IsLetOut old new = new ≡ record old { drives = []; reports = []; let_out = old.disk }

-- but for a disk that failed nothing was written; and but for want of memory the fault is that of
-- the file
abbrev pub IsRefused : LogFault → Result (List Logged) LogFault → List ℕ → List ℕ → Type 0
IsRefused fault kept old new =
    (fault ≢ Failed → new ≡ old) × (fault ≢ Failed → fault ≢ NoMemory → kept ≡ Err fault)
