-- Which items of a line are runs.
use Rattle.home_types.specs.Numbers.{RunId}
use Rattle.home_types.specs.declared.items.Item.TheVariants.{Back, Failed, Ran}
use Rattle.home_types.specs.declared.items.Item.{Item}
use Rattle.std.specs.Prelude.{Bool, false, ◌==◌}

-- the item is a run of which the test holds
abbrev pub of_run : (RunId → Bool) → Item → Bool
of_run test (Ran r) = test r.0
of_run test (Failed d k) = false
of_run test (Back d k) = false

-- the item is the run
abbrev pub is_ran : RunId → Item → Bool
is_ran r = of_run (λ q. q == r)
