-- What is tested before an order is done: that it is of a roster and of a home with so many
-- devices.
use Rattle.command_rules.specs.declared.rosters.RosterRun.{RosterRun}
use Rattle.home_types.specs.declared.commands.Command.{Command}
use Rattle.home_types.specs.declared.items.Item.TheVariants.{Back, Failed, Ran}
use Rattle.home_types.specs.declared.items.Item.{Item}
use Rattle.std.specs.List.{list_all}
use Rattle.std.specs.Prelude.{Bool, nat_le, nat_lt, ℕ, ◌&&◌}

abbrev pub command_fits : ℕ → Command → Bool
command_fits devices c = nat_lt c.device.0 devices

abbrev pub run_fits : ℕ → RosterRun → Bool
run_fits devices run = list_all (command_fits devices) run.routine.commands.items

abbrev pub item_fits : ℕ → ℕ → Item → Bool
item_fits devices runs (Ran r) = nat_lt 0 r.0 && nat_le r.0 runs
item_fits devices runs (Failed d k) = nat_lt d.0 devices
item_fits devices runs (Back d k) = nat_lt d.0 devices
