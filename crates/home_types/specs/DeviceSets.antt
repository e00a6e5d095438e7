-- The set of devices that a few words of bits stand for.
use Rattle.home_types.specs.Limits.{most_devices}
use Rattle.home_types.specs.Numbers.{DeviceId}
use Rattle.std.specs.FinSet as set
use Rattle.std.specs.Int.{bit_at}
use Rattle.std.specs.List.{range_with_len}
use Rattle.std.specs.Ordering.{nat_cmp}
use Rattle.std.specs.Prelude.{Bool, List, None, Option, Some, false, filter, slice_index, true, ℕ, ◌%◌, ◌/◌, ◌<◌, ◌==◌, ◌≡◌, ◌≤◌}

-- a set of devices
abbrev pub Devices : Type 0
Devices = set.FinSet nat_cmp

-- the device's bit is set
abbrev pub has_bit : List ℕ → DeviceId → Bool
has_bit words d = bit_at (slice_index words (d / 64)) (d % 64) == 1

-- the devices of a home whose bits are set
unfoldable pub devices_of_bits : List ℕ → Devices
devices_of_bits words = set.from_list (filter (has_bit words) (range_with_len 0 most_devices))

-- some bit of the word is set
abbrev pub HasBit : ℕ → Type 0
HasBit word = (k : ℕ) × (k < 64) × (bit_at word k ≡ 1)

-- some device is in both
abbrev pub Meet : Devices → Devices → Type 0
Meet a b = (d : DeviceId) × (set.contains a d ≡ true) × (set.contains b d ≡ true)

-- the smallest number from this one on that passes the test; none where none passes
abbrev pub IsFirstFrom : (ℕ → Bool) → ℕ → Option ℕ → Type 0
IsFirstFrom test from None = (q : ℕ) → from ≤ q → test q ≡ false
IsFirstFrom test from (Some d) =
    (from ≤ d) × (test d ≡ true) × ((q : ℕ) → from ≤ q → q < d → test q ≡ false)
