-- What is asked of a live home.
use Rattle.home_states.specs.LiveHomes.{LiveState}
use Rattle.home_states.specs.declared.homes.Phase.TheVariants.{Between, InWindow, Moving}
use Rattle.home_states.specs.declared.homes.Phase.{Phase}
use Rattle.home_states.specs.declared.refusals.NotStanding.TheVariants.{Absent, InWindow as IsInWindow}
use Rattle.home_states.specs.declared.refusals.NotStanding.{NotStanding}
use Rattle.home_types.specs.declared.worlds.Stand.{Stand}
use Rattle.hub_core.specs.Homes.{HomeState}
use Rattle.routine_reader.specs.declared.scripts.DeviceText.{DeviceText}
use Rattle.routine_reader.specs.declared.scripts.RoutineText.{RoutineText}
use Rattle.routine_reader.specs.declared.scripts.Script.{Script}
use Rattle.routine_reader.specs.declared.scripts.WindowText.{WindowText}
use Rattle.handed_devices.specs.declared.devices.HandedDevice.{HandedDevice}
use Rattle.std.specs.Prelude.{List, None, Option, Some, [], length, slice_get, ℕ, ◌≡◌, ◌≤◌}

abbrev pub StandsIn : Phase → ℕ → Stand → Type 0
StandsIn (Between home) d stand = slice_get home.world d ≡ Some stand
StandsIn (InWindow k hub) d stand = ⊥
StandsIn Moving d stand = ⊥

-- the device stands so, between two windows
abbrev pub DeviceStandsAt : LiveState → ℕ → Stand → Type 0
DeviceStandsAt s d stand = StandsIn s.phase d stand

-- why it is not told
abbrev pub NoStandOf : HomeState HandedDevice → ℕ → NotStanding → Type 0
NoStandOf home d IsInWindow = ⊥
NoStandOf home d Absent = length home.world ≤ d

abbrev pub MayNotStandIn : Phase → ℕ → NotStanding → Type 0
MayNotStandIn (Between home) d why = NoStandOf home d why
MayNotStandIn (InWindow k hub) d why = why ≡ IsInWindow
MayNotStandIn Moving d why = ⊥

abbrev pub MayNotStand : LiveState → ℕ → NotStanding → Type 0
MayNotStand s d why = MayNotStandIn s.phase d why

abbrev pub run_count_in : Option WindowText → ℕ
run_count_in None = 0
run_count_in (Some window) = length window.runs.items

-- how many runs the window of the script has
abbrev pub run_count : LiveState → ℕ → ℕ
run_count s window = run_count_in (slice_get s.script.windows.items window)

-- the names of the script, empty where there is no such thing
abbrev pub name_of_device : Option DeviceText → List ℕ
name_of_device None = []
name_of_device (Some device) = device.name

abbrev pub script_device_name : Script → ℕ → List ℕ
script_device_name script d = name_of_device (slice_get script.devices.items d)

abbrev pub name_of_routine : Option RoutineText → List ℕ
name_of_routine None = []
name_of_routine (Some routine) = routine.name

abbrev pub script_routine_name : Script → ℕ → List ℕ
script_routine_name script routine = name_of_routine (slice_get script.routines.items routine)

abbrev pub told_name : Option (List ℕ) → List ℕ
told_name None = []
told_name (Some name) = name

abbrev pub name_of_value : Option DeviceText → ℕ → List ℕ
name_of_value None value = []
name_of_value (Some device) value = told_name (slice_get device.states.items value)

abbrev pub value_name : Script → ℕ → ℕ → List ℕ
value_name script d value = name_of_value (slice_get script.devices.items d) value
