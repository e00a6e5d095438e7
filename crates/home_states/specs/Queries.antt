-- What is asked of the window in which a live home is.
use Rattle.device_gate.specs.Places.{kept_of}
use Rattle.handed_devices.specs.declared.devices.HandedDevice.{HandedDevice}
use Rattle.history_book.specs.Histories.{entries_of, line_of}
use Rattle.history_book.specs.Sealed.{sealed_of}
use Rattle.home_states.specs.LiveHomes.{LiveState}
use Rattle.home_states.specs.Tickets.{numbered_call}
use Rattle.home_states.specs.declared.homes.Phase.TheVariants.{Between, InWindow, Moving}
use Rattle.home_states.specs.declared.homes.Phase.{Phase}
use Rattle.home_states.specs.declared.refusals.NotFinal.TheVariants.{Absent as IsAbsent, NoWindow as NoneOpen}
use Rattle.home_states.specs.declared.refusals.NotFinal.{NotFinal}
use Rattle.home_states.specs.declared.refusals.NotLent.TheVariants.{Absent, IsHome, NoWindow}
use Rattle.home_states.specs.declared.refusals.NotLent.{NotLent}
use Rattle.home_types.specs.declared.items.Item.{Item}
use Rattle.hub_core.specs.OpenHubs.{OpenHub}
use Rattle.hub_table.specs.Tables.{SlipAndTask}
use Rattle.std.specs.Prelude.{List, None, Option, Some, if◌then◌else◌, length, nat_le, option_map, slice_get, take, ℕ, ◌≡◌}

-- Devices that are out

-- with what the device is out of the window, with the number of its call in the life of the home,
-- where so many calls went before the window
abbrev pub lent_of : OpenHub HandedDevice → ℕ → ℕ → Option SlipAndTask
lent_of hub before d = numbered_call before (kept_of (slice_get hub.places d))

abbrev pub lent_in : Phase → ℕ → ℕ → Option SlipAndTask
lent_in (Between home) before d = None
lent_in (InWindow k hub) before d = lent_of hub before d
lent_in Moving before d = None

-- the device is out with this slip, which has the home's number of the call, and this task
abbrev pub IsLent : LiveState → ℕ → SlipAndTask → Type 0
IsLent s d out = lent_in s.phase s.tickets_before d ≡ Some out

abbrev pub home_or_out : Option SlipAndTask → Option NotLent
home_or_out None = Some IsHome
home_or_out (Some out) = None

-- the first reason against the device being out of the window
abbrev pub first_against_lent_of : OpenHub HandedDevice → ℕ → Option NotLent
first_against_lent_of hub d =
    if nat_le (length hub.setting.first) d then Some Absent
    else home_or_out (kept_of (slice_get hub.places d))

abbrev pub first_against_lent : LiveState → ℕ → Option NotLent
first_against_lent s d = by_phase s.phase
  where
    by_phase : Phase → Option NotLent
    by_phase (Between home) = Some NoWindow
    by_phase (InWindow k hub) = first_against_lent_of hub d
    by_phase Moving = Some NoWindow

-- why it is not told with what it is out
abbrev pub MayNotTellLent : LiveState → ℕ → NotLent → Type 0
MayNotTellLent s d why = first_against_lent s d ≡ Some why

-- The final items of the order

-- how many items are final in the window, where one is open
abbrev pub final_count : Option (OpenHub HandedDevice) → Option ℕ
final_count hub = option_map (λ h. sealed_of h.setting (entries_of h.history)) hub

-- they are the first ones of its order
abbrev pub final_items : OpenHub HandedDevice → List Item
final_items hub =
    take (sealed_of hub.setting (entries_of hub.history))
    (line_of hub.setting (entries_of hub.history))

abbrev pub final_in : Phase → ℕ → Option Item
final_in (Between home) at = None
final_in (InWindow k hub) at = slice_get (final_items hub) at
final_in Moving at = None

-- the item at this place of the order is this one, and final
abbrev pub IsFinal : LiveState → ℕ → Item → Type 0
IsFinal s at item = final_in s.phase at ≡ Some item

abbrev pub no_item : Option Item → Option NotFinal
no_item None = Some IsAbsent
no_item (Some item) = None

-- the first reason against a final item at this place
abbrev pub first_against_final : LiveState → ℕ → Option NotFinal
first_against_final s at = by_phase s.phase
  where
    by_phase : Phase → Option NotFinal
    by_phase (Between home) = Some NoneOpen
    by_phase (InWindow k hub) = no_item (slice_get (final_items hub) at)
    by_phase Moving = Some NoneOpen

-- why none is told
abbrev pub MayNotTellFinal : LiveState → ℕ → NotFinal → Type 0
MayNotTellFinal s at why = first_against_final s at ≡ Some why
