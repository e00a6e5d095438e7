-- The devices to which a run has an access, kept as a set for each run number below some.
use Rattle.home_types.specs.DeviceSets.{Devices}
use Rattle.home_types.specs.Limits.{most_runs}
use Rattle.home_types.specs.Numbers.{DeviceId, RunId}
use Rattle.lineage_table.specs.Accesses.{has_access}
use Rattle.lineage_table.specs.Lineages.{IsTable, LineageState, accesses_at}
use Rattle.std.specs.FinSet as set
use Rattle.std.specs.Prelude.{Bool, List, false, length, not, slice_index_or, ◌&&◌, ◌+◌, ◌<◌, ◌==◌, ◌||◌, ◌≡◌}

-- the device is in the set of the run
abbrev pub is_in : List Devices → RunId → DeviceId → Bool
is_in sets r d = set.contains (slice_index_or sets r set.empty) d

-- the set of each run that has one is that of the devices to which it has an access
abbrev pub AreOfAccesses : List Devices → List LineageState → Type 0
AreOfAccesses sets table =
    (r : RunId) (d : DeviceId) → r < length sets
    → is_in sets r d ≡ has_access r (accesses_at table d)

-- a table, with the devices of its runs
pub record TableIsSound (sets : List Devices) (lineages : List LineageState) : Type 0 where
  pub table : IsTable lineages
  pub devices : AreOfAccesses sets lineages

-- there is a set for each run number that a window may have, and for 0, and there are no more
abbrev pub HaveSets : List Devices → Type 0
HaveSets sets = length sets ≡ most_runs + 1

-- no device is in a set
abbrev pub AreEmpty : List Devices → Type 0
AreEmpty sets = (r : RunId) (d : DeviceId) → r < length sets → is_in sets r d ≡ false

-- the same sets, with this device more in that of this run
pub record HasMore (r : RunId) (d : DeviceId) (old new : List Devices) : Type 0 where
  pub runs : length new ≡ length old
  pub each : (q : RunId) (e : DeviceId) → q < length old
      → is_in new q e ≡ (((q == r) && (e == d)) || is_in old q e)

-- the same sets, without this device in those of the runs that leave it
pub record HasLess (leaves : RunId → Bool) (d : DeviceId) (old new : List Devices) : Type 0 where
  pub runs : length new ≡ length old
  pub each : (q : RunId) (e : DeviceId) → q < length old
      → is_in new q e ≡ (not ((e == d) && leaves q) && is_in old q e)
