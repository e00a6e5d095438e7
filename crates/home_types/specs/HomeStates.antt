-- The state of a home: for each device the value at which it stands, and whether it is up.
use Rattle.home_types.specs.Numbers.{DeviceId}
use Rattle.home_types.specs.declared.worlds.Stand.{Stand}
use Rattle.std.specs.Prelude.{Bool, List, false, slice_index_or, slice_set}

-- where a device stands that is none of the home
abbrev pub nowhere : Stand
nowhere = record { value = 0; up = false }

-- where the device stands
abbrev pub stand_at : List Stand → DeviceId → Stand
stand_at home d = slice_index_or home d nowhere

-- the home with the device up or down, its value kept
abbrev pub with_up : List Stand → DeviceId → Bool → List Stand
with_up home d up = slice_set home d (record { value = (stand_at home d).value; up = up })
