-- The runs that are marked, each at a device, as numbers.
use Rattle.blocked_runs.specs.RunBits.{has_run}
use Rattle.home_types.specs.Numbers.{DeviceId, RunId}
use Rattle.std.specs.Prelude.{Bool, List, false, slice_index_or, true, ℕ, ◌≡◌, ◌⊎◌}

-- the words of bits: the runs that are marked, and for each device those that were marked there
pub record BlockedState : Type 0 where
  pub runs : ℕ
  pub at : List ℕ

abbrev pub is_marked : BlockedState → RunId → Bool
is_marked b r = has_run b.runs r

abbrev pub is_marked_at : BlockedState → DeviceId → RunId → Bool
is_marked_at b d r = has_run (slice_index_or b.at d 0) r

-- no run is marked
abbrev pub NoneMarked : BlockedState → Type 0
NoneMarked b = (r : RunId) → is_marked b r ≡ false

-- one run more may be marked, at this device
pub record HasMarked (b : BlockedState) (r : RunId) (d : DeviceId)
    (after : BlockedState) : Type 0 where
  pub marked : (q : RunId) → is_marked after q ≡ true
      → (is_marked b q ≡ true) ⊎ ((q ≡ r) × (is_marked_at after d q ≡ true))
  pub there : (e : DeviceId) (q : RunId) → is_marked_at b e q ≡ true → is_marked_at after e q ≡ true

-- no run more is marked; and where one is left that was marked at a device, this holds of the
-- device, and it is marked there still
pub record AreLeft (b after : BlockedState) (Holds : DeviceId → Type 0) : Type 0 where
  pub marked : (r : RunId) → is_marked after r ≡ true → is_marked b r ≡ true
  pub there : (r : RunId) (d : DeviceId) → is_marked after r ≡ true → is_marked_at b d r ≡ true
      → Holds d × (is_marked_at after d r ≡ true)
