-- Agreement of a window with the serial execution of its order.
use Rattle.device_states.specs.Devices.{Shown}
use Rattle.history_book.specs.Histories.{answers_in, executed, reading}
use Rattle.history_book.specs.Settings.{Setting}
use Rattle.history_book.specs.declared.entries.Entry.{Entry}
use Rattle.home_types.specs.HomeStates.{stand_at}
use Rattle.home_types.specs.Numbers.{DeviceId}
use Rattle.home_types.specs.declared.items.Item.{Item}
use Rattle.home_types.specs.declared.worlds.Stand.{Stand}
use Rattle.std.specs.Prelude.{List, Some, false, length, slice_get, true, ◌<◌, ◌≡◌}

-- the order, executed run after run from the first state, gives what the history and the last state
-- say
pub record AgreesWithSerial (w : Setting) (history : List Entry) (order : List Item)
    (last : List Stand) : Type 0 where
  -- no command fails that must not, and each event applies
  pub applies : (executed w order).refused ≡ false
  -- each run answers there what it answered in the history
  pub answers : (executed w order).answers ≡ answers_in (reading w history) order
  -- and leaves the last state
  pub home : (executed w order).home ≡ last
  -- in which a device is up where it is counted up
  pub counted : (d : DeviceId) → d < length w.first
      → (stand_at last d).up ≡ (reading w history).up d

-- the real devices: each one that is up in the last state stands at its value there
abbrev pub UpDevicesStand : {D : Type 0} → (D → Shown) → List D → List Stand → Type 0
UpDevicesStand {D} shows devices last =
    (d : DeviceId) (device : D) → slice_get devices d ≡ Some device → (stand_at last d).up ≡ true
    → (shows device).stands ≡ (stand_at last d).value
