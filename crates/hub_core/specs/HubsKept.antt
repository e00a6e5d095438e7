-- What the type of a hub keeps.
use Rattle.device_gate.specs.Calls.{is_counted_up, probed}
use Rattle.device_gate.specs.declared.gates.Place.TheVariants.{Home, Out}
use Rattle.device_gate.specs.declared.gates.Place.{Place}
use Rattle.device_gate.specs.declared.slips.Slip.{Slip}
use Rattle.device_gate.specs.declared.slips.Task.{Task}
use Rattle.device_states.specs.Devices.{Shown}
use Rattle.history_book.specs.Histories.{entries_of}
use Rattle.history_book.specs.ReadHistories.{HistoryState}
use Rattle.home_types.specs.Kinds.{has_value, kind_at}
use Rattle.home_types.specs.Numbers.{DeviceId}
use Rattle.hub_core.specs.Bounds.{most_entries, most_items}
use Rattle.hub_core.specs.Homes.{CountsAreLow}
use Rattle.hub_core.specs.HubCalls.{faults_told, probes_taken}
use Rattle.hub_core.specs.HubSteps.{task_of}
use Rattle.hub_core.specs.KeptByModel.{IsKeptByModel}
use Rattle.hub_core.specs.OpenHubs.{OpenHub, configuration_of, events_in, held_in}
use Rattle.hub_core.specs.OrderStates.{OrderIsBeside}
use Rattle.hub_core.specs.declared.open_windows.ClosingLists.{ClosingLists}
use Rattle.hub_core.specs.declared.open_windows.OpenWindow.TheInside.{Inside}
use Rattle.legal_days.specs.AccountedCalls.{told_calls}
use Rattle.lock_leasing.specs.Configurations.{Configuration, read_of}
use Rattle.std.specs.Prelude.{Bool, IsTrue, Some, count_by, false, length, nat_lt, slice_get, sum_by, true, ℕ, ◌+◌, ◌-◌, ◌<◌, ◌≡◌, ◌≤◌}
use Rattle.window_devices.specs.Checkouts.{HeldTokensAre}
use Rattle.window_devices.specs.KnownDevices.{progress_at}
use Rattle.window_order.specs.Leavings.{IsEmptyFor}

-- how often the device was called up to now: its counts at the opening, and what the window made of
-- them
abbrev pub turns_now : {D : Type 0} → OpenHub D → DeviceId → ℕ
turns_now s d =
    (progress_at s.devices d).at_opening.turns + told_calls s.setting.runs (entries_of s.history) d

abbrev pub probes_now : {D : Type 0} → OpenHub D → DeviceId → ℕ
probes_now s d = (progress_at s.devices d).at_opening.probes + probes_taken s d

-- how many probes were taken of all devices
abbrev pub all_probes_taken : {D : Type 0} → OpenHub D → ℕ
all_probes_taken s = sum_by (λ known. s.rounds - known.probes_left) s.devices

-- a device that is home stands at its value if it is counted up, and its calls are told
pub record FitsAtHome {D : Type 0} (shows : D → Shown) (s : OpenHub D) (d : DeviceId)
    (device : D) : Type 0 where
  pub stand : (read_of (configuration_of s)).up d ≡ true → (shows device).stands ≡ held_in s d
  pub turns_are : (shows device).turns ≡ turns_now s d
  pub probes_are : (shows device).probes ≡ probes_now s d
  pub falls_told : faults_told s d ≤ (shows device).faults
  pub few_faults : (shows device).faults ≤ faults_told s d + probes_taken s d

-- a slip says the same of a device that is out, whose task is that of its purpose
pub record FitsOut {D : Type 0} (s : OpenHub D) (d : DeviceId) (slip : Slip)
    (task : Task) : Type 0 where
  pub device : slip.device.0 ≡ d
  pub stand : IsTrue (is_counted_up task) → slip.stood ≡ held_in s d
  pub turns_are : slip.turns ≡ turns_now s d
  pub probes_are : slip.probes + probed task ≡ probes_now s d
  pub falls_told : faults_told s d ≤ slip.faults
  pub few_faults : slip.faults + probed task ≤ faults_told s d + probes_taken s d
  pub does : task
      ≡ task_of (configuration_of s) slip.maker (progress_at s.devices d).purpose

-- a device that is out for a run
abbrev pub is_away : {D : Type 0} → Place D → Bool
is_away (Home device) = false
is_away (Out slip task) = nat_lt 0 slip.maker

-- what is kept of what a hub shows, where this is kept of its configuration
pub record HubIsKeptBy (Kept : Configuration → ℕ → ℕ → (DeviceId → ℕ) → Type 0) {D : Type 0}
    (shows : D → Shown) (s : OpenHub D) : Type 0 where
  pub configuration : Kept (configuration_of s) s.rounds s.opened (held_in s)
  pub devices_size : length s.devices ≡ length s.setting.first
  pub places_size : length s.places ≡ length s.setting.first
  pub home : (d : DeviceId) (device : D) → slice_get s.places d ≡ Some (Home device)
      → FitsAtHome shows s d device
  pub out : (d : DeviceId) (slip : Slip) (task : Task) → slice_get s.places d ≡ Some (Out slip task)
      → FitsOut s d slip task
  pub low : (d : DeviceId) → CountsAreLow s.opened (progress_at s.devices d).at_opening.turns
      (progress_at s.devices d).at_opening.probes (progress_at s.devices d).at_opening.faults
  pub values : (d : DeviceId) → d < length s.setting.first
      → IsTrue (has_value (kind_at s.setting.kinds d) (held_in s d))
  -- the hub has counted the failures and restarts of each device as the history tells them
  pub events : (d : DeviceId) → d < length s.setting.first
      → (progress_at s.devices d).events ≡ events_in (read_of (configuration_of s)) d
  -- each ticket is of a call that is told, of a device that is out for a run, or of a probe
  pub few_tickets : s.tickets ≤ length s.history + count_by is_away s.places + all_probes_taken s

-- .. in each model
abbrev pub HubIsKept : {D : Type 0} → (D → Shown) → OpenHub D → Type 0
HubIsKept shows s = HubIsKeptBy IsKeptByModel shows s

-- a window has room for every entry of its history, and for every item and every device in the
-- lists that its closing fills
pub record HasRoomLeft (rounds : ℕ) (h : HistoryState) (closing : ClosingLists) : Type 0 where
  pub history : most_entries (length h.setting.runs) (length h.setting.first) rounds
      ≤ h.spare + length h.history
  pub order : IsEmptyFor closing.order
      (most_items (length h.setting.runs) (length h.setting.first) rounds)
  pub last : IsEmptyFor closing.last (length h.setting.first)
  pub world : IsEmptyFor closing.world (length h.setting.first)
  pub turns : IsEmptyFor closing.turns (length h.setting.first)
  pub faults : IsEmptyFor closing.faults (length h.setting.first)

-- what the parts of a hub show
abbrev pub open_of : {D : Type 0} → Inside D → OpenHub D
open_of h = record {
  setting = h.history.setting;
  rounds = h.rounds;
  opened = h.opened;
  history = h.history.history;
  moment = h.moment;
  devices = h.checkouts.known.items;
  places = h.checkouts.gate.places;
  tickets = h.checkouts.gate.tickets;
}

-- what the type of a hub keeps of its parts
pub record IsWhole {D : Type 0} (shows : D → Shown) (h : Inside D) : Type 0 where
  pub shown : HubIsKept shows (open_of h)
  pub room : HasRoomLeft h.rounds h.history h.closing
  pub order : OrderIsBeside h.rounds h.history
      (configuration_of (open_of h)).grips h.order.line h.order.table
  pub held_tokens : HeldTokensAre h.history.setting
      (configuration_of (open_of h)).grips h.checkouts.held_tokens.items
