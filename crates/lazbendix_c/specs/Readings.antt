-- How a home stands, and the numbers of its script, as a C program is told.
use Rattle.home_states.specs.LiveHomes.{LiveState}
use Rattle.home_states.specs.Readings.{DeviceStandsAt}
use Rattle.home_types.specs.declared.worlds.Stand.{Stand}
use Rattle.lazbendix_c.specs.Numbers.{device_number}
use Rattle.lazbendix_c.specs.Told.{stand_of}
use Rattle.lazbendix_c.specs.declared.told_turns.ToldCounts.{ToldCounts}
use Rattle.lazbendix_c.specs.declared.told_turns.ToldStand.{ToldStand}
use Rattle.std.specs.Prelude.{List, drop, length, min, take, ℕ, ◌++◌, ◌≡◌}

-- the device stands so between two windows
pub record IsToldStand (s : LiveState) (device : ℕ) (told : ToldStand) : Type 0 where
  pub stand : Stand
  pub stands : DeviceStandsAt s (device_number device) stand
  pub told_is : told ≡ stand_of stand

-- so many devices, routines and windows the script has
pub record AreScriptCounts (s : LiveState) (told : ToldCounts) : Type 0 where
  pub devices : told.devices ≡ length s.script.devices.items
  pub routines : told.routines ≡ length s.script.routines.items
  pub windows : told.windows ≡ length s.script.windows.items

-- the name is so long, and as much of it as fits stands in the room
pub record HasNamed (name room after : List ℕ) (len : ℕ) : Type 0 where
  pub size : len ≡ length name
  pub copied : after ≡ take (min len (length room)) name ++ drop (min len (length room)) room
