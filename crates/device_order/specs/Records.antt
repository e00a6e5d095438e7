-- What is kept of one device.
use Rattle.device_order.specs.Usages.{holds_grip}
use Rattle.device_order.specs.Walks.{Home, WalkState, has, walk_end}
use Rattle.device_order.specs.declared.records.OrderEntry.{OrderEntry}
use Rattle.device_order.specs.declared.records.Probe.TheVariants.{Unprobed}
use Rattle.device_order.specs.declared.records.Probe.{Probe}
use Rattle.std.specs.Prelude.{Bool, List, [], false, true, ℕ, ◌≡◌}

-- what is kept of a device, over plain lists and numbers
pub record DeviceRecord : Type 0 where
  -- the uses that runs make of it in line order, with its events among them
  pub order : List OrderEntry
  pub first_up : Bool
  pub first : ℕ
  -- as it is counted now
  pub up : Bool
  -- where it stands, or stood as it went out
  pub held : ℕ
  pub probe : Probe

-- the walk begins with a device that no run has used
abbrev pub walk_start : Bool → ℕ → WalkState
walk_start up v = record {
  up = up;
  value = v;
  stand = v;
  settled = true;
  undoing = false;
  opened = false;
  waiting = false;
  spanned = false;
  exposed = false;
  out = Home;
}

-- the walk along these entries, from the device's first state
abbrev pub walk_after : DeviceRecord → List OrderEntry → WalkState
walk_after d xs = walk_end (walk_start d.first_up d.first) xs

-- no grip and no probe of the device is out
pub record NothingIsOut (d : DeviceRecord) : Type 0 where
  pub free : has holds_grip d.order ≡ false
  pub unprobed : d.probe ≡ Unprobed

-- a device that no run has used
abbrev pub new_device : Bool → ℕ → DeviceRecord
new_device up v =
    record { order = []; first_up = up; first = v; up = up; held = v; probe = Unprobed }
