-- What is known of the devices of a window beside the history, as it opens and as they come home.
use Rattle.device_gate.specs.Calls.{has_died, held_after, is_counted_up}
use Rattle.device_gate.specs.declared.gates.Place.TheVariants.{Home, Out}
use Rattle.device_gate.specs.declared.gates.Place.{Place}
use Rattle.device_gate.specs.declared.slips.Task.{Task}
use Rattle.device_gate.specs.declared.slips.Told.{Told}
use Rattle.device_states.specs.Devices.{Shown}
use Rattle.home_types.specs.HomeStates.{stand_at}
use Rattle.home_types.specs.Listed.{Listed}
use Rattle.home_types.specs.Numbers.{DeviceId}
use Rattle.home_types.specs.declared.worlds.Stand.{Stand}
use Rattle.lock_leasing.specs.Configurations.{Grip}
use Rattle.lock_leasing.specs.declared.purposes.Purpose.TheVariants.{Commands}
use Rattle.lock_leasing.specs.declared.purposes.Purpose.{Purpose}
use Rattle.std.specs.Prelude.{Bool, List, None, Option, Some, [], false, length, slice_get, slice_index_or, true, ℕ, ◌+◌, ◌<◌, ◌≡◌}
use Rattle.window_devices.specs.declared.known.DeviceCallCounts.{DeviceCallCounts}
use Rattle.window_devices.specs.declared.known.DeviceProgress.{DeviceProgress}
use Rattle.window_devices.specs.declared.known.Events.{Events}

abbrev pub no_counts : DeviceCallCounts
no_counts = record { turns = 0; probes = 0; faults = 0 }

abbrev pub no_events : Events
no_events = record { fell = 0; rose = 0 }

abbrev pub no_device : DeviceProgress
no_device = record {
  held = 0;
  probes_left = 0;
  purpose = Commands 0;
  at_opening = no_counts;
  events = no_events;
}

-- what is known of the device
abbrev pub progress_at : List DeviceProgress → DeviceId → DeviceProgress
progress_at devices d = slice_index_or devices d no_device

-- the grip with which the device in this place is out, for this purpose
abbrev pub grip_in : {D : Type 0} → Option (Place D) → Purpose → Option Grip
grip_in None purpose = None
grip_in (Some (Home device)) purpose = None
grip_in (Some (Out slip task)) purpose =
    Some (record { maker = slip.maker; purpose = purpose })

-- an empty list with room for so many items and no more
abbrev pub IsRoomFor : {T : Type 0} → Listed T → ℕ → Type 0
IsRoomFor list n = (list.items ≡ []) × (list.spare ≡ n)

-- as a window opens, a device stands at this value, so many probes of it may be taken, and these
-- are its counts
abbrev pub known_first : ℕ → ℕ → ℕ → ℕ → ℕ → DeviceProgress
known_first rounds value turns probes faults =
    record {
      held = value;
      probes_left = rounds;
      purpose = Commands 0;
      at_opening = record { turns = turns; probes = probes; faults = faults };
      events = no_events;
    }

-- the first n devices of the home are known as they are
pub record AreKnown {D : Type 0} (shows : D → Shown) (devices : List D) (world : List Stand)
    (rounds n : ℕ) (known : List DeviceProgress) : Type 0 where
  pub size : length known ≡ n
  pub each : (d : DeviceId) (device : D) → d < n → slice_get devices d ≡ Some device
      → slice_get known d ≡ Some (known_first rounds (stand_at world d).value
      (shows device).turns (shows device).probes (shows device).faults)

-- how often a device has failed and come back that was counted up, or down, and then died, or
-- answered
abbrev pub turned : Bool → Bool → Events → Events
turned true true events = record events { fell = events.fell + 1 }
turned true false events = events
turned false true events = events
turned false false events = record events { rose = events.rose + 1 }

-- .. with what it told of its task
abbrev pub events_after : Task → Told → Events → Events
events_after task told events = turned (is_counted_up task) (has_died told) events

-- what is known of a device that has come home
abbrev pub known_after : Task → Told → DeviceProgress → DeviceProgress
known_after task told known = record known {
  held = held_after told task known.held;
  events = events_after task told known.events;
}
