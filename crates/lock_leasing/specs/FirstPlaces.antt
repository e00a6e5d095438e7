-- The first place where a run may be put, for parts that belong to one window.
use Rattle.home_types.specs.Numbers.{LinePlace, RunId}
use Rattle.lock_leasing.specs.Configurations.{Configuration, point_of}
use Rattle.lock_leasing.specs.Places.{first_place}
use Rattle.lock_leasing.specs.Standings.{IsStandingOf, WindowParts}
use Rattle.std.specs.Prelude.{◌≡◌}

-- the place is that of each configuration to which the parts belong
abbrev pub IsFirstPlaceOf : WindowParts → RunId → LinePlace → Type 0
IsFirstPlaceOf parts r place =
    (s : Configuration) → IsStandingOf s parts → place ≡ first_place (point_of s) r
