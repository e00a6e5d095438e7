-- The places of a gate: each device is home, or out with a slip and a task.
use Rattle.device_gate.specs.declared.gates.Place.{Place}
use Rattle.device_gate.specs.declared.gates.Place.TheVariants.{Home, Out}
use Rattle.device_gate.specs.declared.slips.Slip.{Slip}
use Rattle.device_gate.specs.declared.slips.Task.{Task}
use Rattle.device_states.specs.Devices.{Shown}
use Rattle.std.specs.Prelude.{List, None, Option, Some, [], length, map, option_map, slice_get, ℕ, ◌<◌, ◌≡◌, ◌≤◌}

-- what a gate shows: the places, and how many devices were handed out, each with the next ticket
pub record GateState (D : Type 0) : Type 0 where
  pub places : List (Place D)
  pub tickets : ℕ

-- the device d is home
abbrev pub IsHome : {D : Type 0} → List (Place D) → ℕ → Type 0
IsHome {D} places d = (device : D) × (slice_get places d ≡ Some (Home device))

-- every device is home
abbrev pub AllHome : {D : Type 0} → List (Place D) → Type 0
AllHome places = (d : ℕ) → d < length places → IsHome places d

-- the device d is out
abbrev pub IsOut : {D : Type 0} → List (Place D) → ℕ → Type 0
IsOut places d = (slip : Slip) × (task : Task) × (slice_get places d ≡ Some (Out slip task))

-- the device d is out, and each one before it is home
abbrev pub IsFirstOut : {D : Type 0} → List (Place D) → ℕ → Type 0
IsFirstOut places d = IsOut places d × ((e : ℕ) → e < d → IsHome places e)

-- the places of these devices, all of them home
abbrev pub all_home : {D : Type 0} → List D → List (Place D)
all_home devices = map (λ device. Home device) devices

-- with what a device is out, where it is
abbrev pub kept_of : {D : Type 0} → Option (Place D) → Option (Slip × Task)
kept_of None = None
kept_of (Some (Home device)) = None
kept_of (Some (Out slip task)) = Some (slip, task)

-- the slip in the place, where there is one
abbrev pub slip_of : {D : Type 0} → Option (Place D) → Option Slip
slip_of place = option_map (λ kept. kept.0) (kept_of place)

-- the device of the slip is out with this slip and for this task
abbrev pub IsKept : {D : Type 0} → List (Place D) → Slip → Task → Type 0
IsKept places slip task = slice_get places slip.device.0 ≡ Some (Out slip task)

-- each device stands at its number
abbrev pub AreNumbered : {D : Type 0} → (D → Shown) → List D → Type 0
AreNumbered {D} shows devices =
    (d : ℕ) (device : D) → slice_get devices d ≡ Some device → (shows device).tag ≡ d

-- what the type of a gate keeps: each device is in the place of its number, and there is an empty
-- list with room for all
pub record IsGate {D : Type 0} (shows : D → Shown) (places : List (Place D)) (emptied : List D)
    (room : ℕ) : Type 0 where
  pub home : (d : ℕ) (device : D) → slice_get places d ≡ Some (Home device) → (shows device).tag ≡ d
  pub out : (d : ℕ) (slip : Slip) (task : Task) → slice_get places d ≡ Some (Out slip task)
      → slip.device.0 ≡ d
  pub none : emptied ≡ []
  pub enough : length places ≤ room
