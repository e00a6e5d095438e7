-- A home that is told, between two windows, where a device was found, or that it is lost.
use Rattle.home_types.specs.HomeStates.{with_up}
use Rattle.home_types.specs.Numbers.{DeviceId}
use Rattle.hub_core.specs.Homes.{HomeState}
use Rattle.std.specs.Prelude.{false, slice_set, true, ℕ}

-- the device stands for the home at the value, and is up; nothing else is changed
abbrev pub restood : {D : Type 0} → HomeState D → DeviceId → D → ℕ → HomeState D
restood s d device value = record s {
  world = slice_set s.world d (record { value = value; up = true });
  devices = slice_set s.devices d device;
}

-- the device is down, its value kept; nothing else is changed
abbrev pub lost : {D : Type 0} → HomeState D → DeviceId → HomeState D
lost s d = record s { world = with_up s.world d false }
