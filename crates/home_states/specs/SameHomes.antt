-- Two homes that are the same for all who call them.
use Rattle.device_gate.specs.Calls.{is_counted_up}
use Rattle.device_gate.specs.Places.{kept_of}
use Rattle.device_gate.specs.declared.gates.Place.{Place}
use Rattle.device_gate.specs.declared.slips.Task.{Task}
use Rattle.handed_devices.specs.declared.devices.HandedDevice.{HandedDevice}
use Rattle.history_book.specs.declared.entries.Kept.{Kept}
use Rattle.home_states.specs.LiveHomes.{LiveState}
use Rattle.home_states.specs.declared.homes.ClosedWindow.{ClosedWindow}
use Rattle.home_states.specs.declared.homes.Phase.TheVariants.{Between, InWindow, Moving}
use Rattle.home_states.specs.declared.homes.Phase.{Phase}
use Rattle.home_types.specs.declared.items.Item.{Item}
use Rattle.home_types.specs.declared.worlds.Stand.{Stand}
use Rattle.hub_core.specs.Homes.{HomeState}
use Rattle.hub_core.specs.OpenHubs.{OpenHub, configuration_of}
use Rattle.hub_core.specs.Steps.{at_moment}
use Rattle.hub_table.specs.Tables.{SlipAndTask}
use Rattle.routine_reader.specs.Scripts.{plain_script}
use Rattle.std.specs.Prelude.{List, None, Option, Some, if◌then◌else◌, option_map, slice_get, ℕ, ◌≡◌}

-- with what a device is out: the number of its call, its device, for whom, for what, and where it
-- stood, if it is counted up
pub record OutAs : Type 0 where
  pub ticket : ℕ
  pub device : ℕ
  pub maker : ℕ
  pub task : Task
  pub stood : Option ℕ

abbrev pub out_as : SlipAndTask → OutAs
out_as out = record {
  ticket = out.0.ticket;
  device = out.0.device.0;
  maker = out.0.maker;
  task = out.1;
  stood = if is_counted_up out.1 then Some out.0.stood else None;
}

-- .. the device in this place
abbrev pub out_in : Option (Place HandedDevice) → Option OutAs
out_in place = option_map out_as (kept_of place)

-- from this moment on the windows are in the same configuration, with the same numbers of windows
-- before and of calls, and each device is out of both with the same, or of neither
pub record SameWindowOf (from : ℕ) (hub other : OpenHub HandedDevice) : Type 0 where
  pub configuration : at_moment (configuration_of hub) from
      ≡ at_moment (configuration_of other) from
  pub opened : hub.opened ≡ other.opened
  pub tickets : hub.tickets ≡ other.tickets
  pub out : (d : ℕ) → out_in (slice_get hub.places d) ≡ out_in (slice_get other.places d)

-- the homes are of the same kinds of devices, which stand alike, and had as many windows
pub record SameBetween (home other : HomeState HandedDevice) : Type 0 where
  pub kinds : home.kinds ≡ other.kinds
  pub world : home.world ≡ other.world
  pub opened : home.opened ≡ other.opened

-- both are between two windows, or in the window of one number
abbrev pub SamePhase : ℕ → Phase → Phase → Type 0
SamePhase from (Between home) (Between other) = SameBetween home other
SamePhase from (Between home) (InWindow n other) = ⊥
SamePhase from (Between home) Moving = ⊥
SamePhase from (InWindow k hub) (Between other) = ⊥
SamePhase from (InWindow k hub) (InWindow n other) = (k ≡ n) × SameWindowOf from hub other
SamePhase from (InWindow k hub) Moving = ⊥
SamePhase from Moving other = ⊥

-- what is told of a window that was closed
pub record ClosedAs : Type 0 where
  pub number : ℕ
  pub history : List Kept
  pub order : List Item
  pub last : List Stand

abbrev pub closed_as : ClosedWindow → ClosedAs
closed_as window = record {
  number = window.number;
  history = window.closed.history.items;
  order = window.closed.order.items;
  last = window.closed.last.devices.items;
}

-- the homes are the same for all who call them from this moment on: script, mode and draft; between
-- two windows how all devices stand; in a window its configuration, the numbers of its calls, and
-- with what each device is out; and the window that was closed last
pub record SameFrom (from : ℕ) (s t : LiveState) : Type 0 where
  pub script : plain_script s.script ≡ plain_script t.script
  pub mode : s.mode ≡ t.mode
  pub phase : SamePhase from s.phase t.phase
  pub tickets : s.tickets_before ≡ t.tickets_before
  pub draft : s.is_draft ≡ t.is_draft
  pub closed : option_map closed_as s.closed ≡ option_map closed_as t.closed

-- .. from whatever moment on
abbrev pub SameHome : LiveState → LiveState → Type 0
SameHome s t = SameFrom 0 s t
