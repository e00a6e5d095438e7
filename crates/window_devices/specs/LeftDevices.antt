-- What closing a window reads from the lineage table, and from the devices that are home again.
use Rattle.home_types.specs.Numbers.{DeviceId}
use Rattle.home_types.specs.declared.worlds.Stand.{Stand}
use Rattle.window_devices.specs.KnownDevices.{progress_at}
use Rattle.window_devices.specs.declared.known.DeviceProgress.{DeviceProgress}
use Rattle.lineage_table.specs.Lineages.{LineageState, lineage_at}
use Rattle.std.specs.Prelude.{List, Some, [], length, slice_get, slice_index_or, suc, zero, ℕ, ◌++◌, ◌+◌, ◌<◌, ◌∷◌, ◌≡◌, ◌≤◌}

-- how a device is left under the weak model: where it is known to stand, up or down as it is
-- counted
abbrev pub known_left : List DeviceProgress → List LineageState → DeviceId → Stand
known_left known table d =
    record { value = (progress_at known d).held; up = (lineage_at table d).up }

-- .. the first so many devices
abbrev pub all_known_left : List DeviceProgress → List LineageState → ℕ → List Stand
all_known_left known table zero = []
all_known_left known table (suc n) = all_known_left known table n ++ known_left known table n ∷ []

-- each device is known, and its count is not below that of the opening
pub record NoneFell {D : Type 0} (count : D → ℕ) (count_then : DeviceProgress → ℕ)
    (known : List DeviceProgress) (devices : List D) : Type 0 where
  pub size : length devices ≡ length known
  pub each : (d : DeviceId) (device : D) → slice_get devices d ≡ Some device
      → count_then (progress_at known d) ≤ count device

-- by so much the count of each of the first n devices rose since the opening
pub record HaveRisen {D : Type 0} (count : D → ℕ) (count_then : DeviceProgress → ℕ)
    (known : List DeviceProgress) (devices : List D) (n : ℕ) (rises : List ℕ) : Type 0 where
  pub size : length rises ≡ n
  pub each : (d : DeviceId) (device : D) → d < n → slice_get devices d ≡ Some device
      → count device ≡ count_then (progress_at known d) + slice_index_or rises d 0
