-- Devices that go out and come home: what is known of them, where they are, and which one each run
-- holds.
use Rattle.device_gate.specs.Calls.{is_counted_up}
use Rattle.device_gate.specs.Grips.{Gripped}
use Rattle.device_gate.specs.Places.{IsHome, IsKept}
use Rattle.device_gate.specs.declared.gates.Place.TheVariants.{Home, Out}
use Rattle.device_gate.specs.declared.grips.Done.{Done}
use Rattle.device_gate.specs.declared.grips.Ready.{Ready}
use Rattle.device_gate.specs.declared.slips.Task.{Task}
use Rattle.device_states.specs.Devices.{MayBeProbed, Shown}
use Rattle.history_book.specs.Settings.{Setting}
use Rattle.home_types.specs.Numbers.{ActorId, DeviceId}
use Rattle.home_types.specs.declared.numbers.DeviceNo.{DeviceNo}
use Rattle.lock_leasing.specs.Configurations.{Grips}
use Rattle.lock_leasing.specs.Waits.{grip_wait}
use Rattle.std.specs.Prelude.{IsTrue, List, None, Option, Some, if◌then◌else◌, length, nat_lt, option_map, slice_get, slice_set, suc, ℕ, ◌+◌, ◌-◌, ◌<◌, ◌≡◌, ◌≤◌}
use Rattle.window_devices.specs.KnownDevices.{known_after, progress_at}
use Rattle.window_devices.specs.declared.checkouts.Checkouts.{Checkouts}
use Rattle.window_devices.specs.declared.known.DeviceProgress.{DeviceProgress}

-- what each run holds where the maker, a run or 0 for the detector, holds this
abbrev pub with_hand : List (Option DeviceNo) → ActorId → Option DeviceNo → List (Option DeviceNo)
with_hand held_tokens maker hand =
    if nat_lt 0 maker then slice_set held_tokens (maker - 1) hand else held_tokens

-- the device, which stands at this value where it is counted up, may go out to the maker: it is
-- home, and is one of the home
pub record MaySend {D : Type 0} (shows : D → Shown) (a : Checkouts D) (d : DeviceId)
    (maker : ActorId)
    (held : ℕ) (task : Task) : Type 0 where
  pub home : IsHome a.gate.places d
  pub room : (device : D) → slice_get a.gate.places d ≡ Some (Home device)
      → MayBeProbed (shows device)
  pub stood : (device : D) → slice_get a.gate.places d ≡ Some (Home device)
      → IsTrue (is_counted_up task) → (shows device).stands ≡ held
  pub tickets : a.gate.tickets < 9223372036854775808
  pub known : d < length a.known.items
  pub maker_is : maker ≤ length a.held_tokens.items

-- the device is out with the grip, and this is known of it
pub record IsSent {D : Type 0} (shows : D → Shown) (a : Checkouts D) (d : DeviceNo)
    (maker : ActorId)
    (known : DeviceProgress) (task : Task) (grip : Gripped D Ready) (b : Checkouts D) : Type 0 where
  pub at : slice_get a.gate.places d.0 ≡ Some (Home grip.device)
  pub places : b.gate.places ≡ slice_set a.gate.places d.0 (Out grip.slip task)
  pub tickets : b.gate.tickets ≡ a.gate.tickets + 1
  pub known_is : b.known.items ≡ slice_set a.known.items d.0 known
  pub held_tokens : b.held_tokens.items ≡ with_hand a.held_tokens.items maker (Some d)
  pub does : grip.task ≡ task
  pub device : grip.slip.device ≡ d
  pub maker_is : grip.slip.maker ≡ maker
  pub ticket : grip.slip.ticket ≡ a.gate.tickets + 1
  pub stood : grip.slip.stood ≡ known.held
  pub had_turns : grip.slip.turns ≡ (shows grip.device).turns
  pub had_probes : grip.slip.probes ≡ (shows grip.device).probes
  pub had_faults : grip.slip.faults ≡ (shows grip.device).faults

-- the grip is the one with which its device is out, which is one of the home, and whose events may
-- still be counted
pub record MayComeHome {D : Type 0} (a : Checkouts D) (grip : Gripped D Done) : Type 0 where
  pub kept : IsKept a.gate.places grip.slip grip.task
  pub known : grip.slip.device.0 < length a.known.items
  pub maker : grip.slip.maker ≤ length a.held_tokens.items
  pub few_fell : (progress_at a.known.items grip.slip.device.0).events.fell + 1 < 4294967296
  pub few_rose : (progress_at a.known.items grip.slip.device.0).events.rose + 1 < 4294967296

-- the device of the grip is home again
pub record IsHomeAgain {D : Type 0} (a : Checkouts D) (grip : Gripped D Done)
    (b : Checkouts D) : Type 0 where
  pub places : b.gate.places ≡ slice_set a.gate.places grip.slip.device.0 (Home grip.device)
  pub tickets : b.gate.tickets ≡ a.gate.tickets
  pub known : b.known.items ≡ slice_set a.known.items grip.slip.device.0
      (known_after grip.task grip.stage.told (progress_at a.known.items grip.slip.device.0))
  pub held_tokens : b.held_tokens.items ≡ with_hand a.held_tokens.items grip.slip.maker None

-- of each run of the window, the device whose grip it holds
pub record HeldTokensAre (w : Setting) (g : Grips)
    (held_tokens : List (Option DeviceNo)) : Type 0 where
  pub size : length held_tokens ≡ length w.runs
  pub each : (i : ℕ) (hand : Option DeviceNo) → slice_get held_tokens i ≡ Some hand
      → option_map (λ d. d.0) hand ≡ grip_wait w g (suc i)
