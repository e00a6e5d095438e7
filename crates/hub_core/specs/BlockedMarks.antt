-- The runs that a hub has marked: each is blocked, and marked at the device of its next command.
use Rattle.blocked_runs.specs.Marks.{BlockedState, HasMarked, NoneMarked, is_marked, is_marked_at}
use Rattle.home_types.specs.Numbers.{DeviceId, RunId}
use Rattle.hub_core.specs.BlockedRuns.{IsBlocked, NeverRevokes, next_device}
use Rattle.hub_core.specs.declared.turns.Turn.TheVariants.{Absent, Go, Moved, Over, Wait}
use Rattle.hub_core.specs.declared.turns.Turn.{Turn}
use Rattle.lock_leasing.specs.Configurations.{Configuration}
use Rattle.std.specs.Prelude.{Bool, Some, false, true, ◌≡◌}

-- each run that is marked is blocked, and marked at the device of its next command
pub record AreBlocked (s : Configuration) (b : BlockedState) : Type 0 where
  pub blocked : (r : RunId) → is_marked b r ≡ true → IsBlocked s r
  pub there : (r : RunId) → is_marked b r ≡ true
      → (d : DeviceId) × (next_device s r ≡ Some d) × (is_marked_at b d r ≡ true)

-- the run may be marked at the device of its next command, where it never finds a lease overdue
pub data MayBeMarked (s : Configuration) (b : BlockedState) (r : RunId)
    (after : BlockedState) : Type 0 where
  Stays : (same : b ≡ after) → MayBeMarked s b r after
  Marks : (d : DeviceId) (next : next_device s r ≡ Some d) (calm : NeverRevokes s r d)
      (marked : HasMarked b r d after) → MayBeMarked s b r after

-- Under the weak model

-- the run is told to wait
abbrev pub is_waiting : {D : Type 0} → Turn D → Bool
is_waiting (Go grip) = false
is_waiting (Moved made) = false
is_waiting (Wait why) = true
is_waiting (Over end made) = false
is_waiting Absent = false

-- where it waits it may be marked
abbrev pub MarkedIf : Bool → Configuration → BlockedState → RunId → BlockedState → Type 0
MarkedIf true s freed r after = MayBeMarked s freed r after
MarkedIf false s freed r after = freed ≡ after

-- no run is marked any more, but for this one where it waits, which may be marked
pub record AreFreedWeakly (waiting : Bool) (s : Configuration) (r : RunId)
    (after : BlockedState) : Type 0 where
  pub freed : BlockedState
  pub none : NoneMarked freed
  pub marked : MarkedIf waiting s freed r after
