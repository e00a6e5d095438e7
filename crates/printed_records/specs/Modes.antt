-- Of which modes a record can be checked.
use Rattle.home_types.specs.declared.modes.Mode.{Mode}
use Rattle.home_types.specs.declared.modes.Scheduler.TheVariants.{Fcfs, JustInTime, Timeline}
use Rattle.home_types.specs.declared.modes.Scheduler.{Scheduler}
use Rattle.home_types.specs.declared.modes.Visibility.TheVariants.{Eventual, Global, Partitioned, Weak}
use Rattle.home_types.specs.declared.modes.Visibility.{Visibility}
use Rattle.std.specs.Prelude.{Bool, false, true}

-- first come first served
abbrev pub is_first_come : Scheduler → Bool
is_first_come Fcfs = true
is_first_come JustInTime = false
is_first_come Timeline = false

-- a model that promises an order, first come first served unless it is `ev`
abbrev pub has_order : Visibility → Scheduler → Bool
has_order Weak scheduler = false
has_order Global scheduler = is_first_come scheduler
has_order Partitioned scheduler = is_first_come scheduler
has_order Eventual scheduler = true

-- the mode is one whose records can be checked
abbrev pub prints_order : Mode → Bool
prints_order mode = has_order mode.model mode.scheduler
