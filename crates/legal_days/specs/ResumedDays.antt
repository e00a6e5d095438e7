-- Days that go on behind windows that were worked before: how the home is resumed, and where the
-- day begins then.
use Rattle.device_states.specs.Devices.{Shown}
use Rattle.home_types.specs.HomeStates.{stand_at}
use Rattle.home_types.specs.Numbers.{DeviceId}
use Rattle.home_types.specs.declared.worlds.Stand.{Stand}
use Rattle.legal_days.specs.LegalDays.{Beginning, IsDeviceOf, new_day}
use Rattle.routine_reader.specs.declared.scripts.DeviceText.{DeviceText}
use Rattle.routine_reader.specs.declared.scripts.Script.{Script}
use Rattle.std.specs.Prelude.{Bool, List, None, Option, Some, false, if◌then◌else◌, length, slice_get, true, ℕ, ◌<◌, ◌≡◌}

-- the device that stood so is resumed as it stands now: at the same value, and not up where it was
-- down
pub record IsStandResumed (before now : Stand) : Type 0 where
  pub value : now.value ≡ before.value
  pub down : before.up ≡ false → now.up ≡ false

-- the home that was in this state is resumed in that one
pub record IsStateResumed (before now : List Stand) : Type 0 where
  pub size : length now ≡ length before
  pub each : (d : DeviceId) → d < length before
      → IsStandResumed (stand_at before d) (stand_at now d)

-- the device died as it was resumed
abbrev pub has_died_resuming : Stand → Stand → Bool
has_died_resuming before now = if now.up then false else before.up

-- the day behind so many windows of the script, on a home that they left in this state and that is
-- resumed in that one: each device that was up was driven, once
abbrev pub resumed_day : Script → ℕ → List Stand → List Stand → Beginning
resumed_day script k before now = record {
  script = script;
  before = k;
  first = now;
  called = λ d. (stand_at now d).up;
  failed = λ d. has_died_resuming (stand_at before d) (stand_at now d);
}

-- the day goes on behind so many kept states, of which this is the last: where there is none it
-- begins as the script's day, else on a home that is resumed in the last one; a day that begins so
-- is legal as each other day is (`IsLegalDayFrom`)
abbrev pub GoesOnBehind : Script → ℕ → Option (List Stand) → Beginning → Type 0
GoesOnBehind script kept None begins = begins ≡ new_day script
GoesOnBehind script kept (Some before) begins =
    (now : List Stand) × IsStateResumed before now × (begins ≡ resumed_day script kept before now)

-- the script's device as the home is resumed: never probed nor sensed, and driven once where it was
-- up
pub record IsDeviceResumed {D : Type 0} (shows : D → Shown) (text : DeviceText) (d : DeviceId)
    (before now : Stand) (device : D) : Type 0 where
  pub own : IsDeviceOf shows text d device
  pub as_told : IsStandResumed before now
  pub stand : now.up ≡ true → (shows device).stands ≡ now.value
  pub turns_are : (shows device).turns ≡ (if now.up then 1 else 0)
  pub drives_are : (shows device).drives ≡ (if now.up then 1 else 0)
  pub faults_are : (shows device).faults ≡ (if has_died_resuming before now then 1 else 0)
  pub no_probes : (shows device).probes ≡ 0

-- the first so many of the script's devices, each resumed as the state of the same number says
pub record AreResumed {D : Type 0} (shows : D → Shown) (texts : List DeviceText)
    (before : List Stand) (n : ℕ) (now : List Stand) (devices : List D) : Type 0 where
  pub size : length devices ≡ n
  pub stands_size : length now ≡ n
  pub each : (d : DeviceId) (device : D) (text : DeviceText) (stand : Stand) → slice_get devices d
      ≡ Some device → slice_get texts d ≡ Some text → slice_get now d ≡ Some stand
      → IsDeviceResumed shows text d (stand_at before d) stand device
