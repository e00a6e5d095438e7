-- A hub that is of the window of a name, and what the calls of one answer: the plan of a device
-- that goes out, and the entries.
use Rattle.device_gate.specs.Grips.{Gripped}
use Rattle.device_gate.specs.declared.gates.Place.TheVariants.{Home}
use Rattle.device_gate.specs.declared.gates.Place.{Place}
use Rattle.device_states.specs.Devices.{Plan, Shown}
use Rattle.history_book.specs.declared.entries.Entry.{Entry}
use Rattle.home_types.specs.Numbers.{DeviceId}
use Rattle.hub_core.specs.OpenHubs.{OpenHub}
use Rattle.window_devices.specs.KnownDevices.{progress_at}
use Rattle.hub_core.specs.declared.turns.Turn.TheVariants.{Absent, Go, Moved, Over, Wait}
use Rattle.hub_core.specs.declared.turns.Turn.{Turn}
use Rattle.hub_threads.specs.Moments.{AreWithin}
use Rattle.hub_threads.specs.Names.{NamedWindow}
use Rattle.std.specs.Prelude.{Bool, List, Some, [], false, length, slice_get, true, ℕ, ⊤, ◌≡◌, ◌≤◌}

-- each device that is home has this plan
abbrev pub PlacesHavePlans : {D : Type 0} → (D → Shown) → (DeviceId → Plan)
    → List (Place D) → Type 0
PlacesHavePlans {D} shows plans places =
    (d : DeviceId) (device : D) → slice_get places d ≡ Some (Home device)
    → (shows device).plan ≡ plans d

-- the hub is of the window of which this is the name
pub record IsNamed {D : Type 0} (shows : D → Shown) (window : NamedWindow)
    (s : OpenHub D) : Type 0 where
  pub setting : s.setting ≡ window.setting
  pub rounds_are : s.rounds ≡ window.rounds
  pub opened_are : s.opened ≡ window.opened
  pub at_opening : (d : DeviceId) → (progress_at s.devices d).at_opening ≡ window.opening d
  pub moment : s.moment ≤ window.latest
  pub moments : AreWithin window.earliest window.latest s.history
  pub have_plans : PlacesHavePlans shows window.plans s.places

-- the device of the grip has the plan of its place
abbrev pub HasPlan : {D S : Type 0} → (D → Shown) → (DeviceId → Plan) → Gripped D S → Type 0
HasPlan shows plans grip = (shows grip.device).plan ≡ plans grip.slip.device.0

-- .. where the step hands one out
abbrev pub TurnHasPlan : {D : Type 0} → (D → Shown) → (DeviceId → Plan) → Turn D → Type 0
TurnHasPlan shows plans (Go grip) = HasPlan shows plans grip
TurnHasPlan shows plans (Moved made) = ⊤
TurnHasPlan shows plans (Wait why) = ⊤
TurnHasPlan shows plans (Over end made) = ⊤
TurnHasPlan shows plans Absent = ⊤

-- the step has done nothing: the run waits, or there is none
abbrev pub is_idle : {D : Type 0} → Turn D → Bool
is_idle (Go grip) = false
is_idle (Moved made) = false
is_idle (Wait why) = true
is_idle (Over end made) = false
is_idle Absent = true

-- the entries in the answer to a run's step
abbrev pub entries_told : {D : Type 0} → Turn D → List Entry
entries_told (Go grip) = []
entries_told (Moved made) = made
entries_told (Wait why) = []
entries_told (Over end made) = made
entries_told Absent = []

-- how many they are
abbrev pub turn_entries : {D : Type 0} → Turn D → ℕ
turn_entries turn = length (entries_told turn)
