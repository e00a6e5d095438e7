-- The must checks of a run.
use Rattle.command_rules.specs.Rosters.{Run, commands_of}
use Rattle.home_types.specs.Numbers.{RunId}
use Rattle.home_types.specs.declared.commands.Command.{Command}
use Rattle.home_types.specs.declared.commands.Job.{Job}
use Rattle.home_types.specs.declared.commands.Job.TheVariants.{Check, Load, Set, Store}
use Rattle.std.specs.List.{list_any}
use Rattle.std.specs.Prelude.{Bool, List, false, true, ◌&&◌}

abbrev pub is_check : Job → Bool
is_check (Set v) = false
is_check (Check v) = true
is_check Load = false
is_check Store = false

-- a must `check`: what it finds may doom its run
abbrev pub is_must_check : Command → Bool
is_must_check c = c.must && is_check c.job

abbrev pub has_must_check : List Run → RunId → Bool
has_must_check runs r = list_any is_must_check (commands_of runs r)
