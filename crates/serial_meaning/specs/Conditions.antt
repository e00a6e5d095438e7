-- What a serial execution asks of the world that it starts in.
use Rattle.command_rules.specs.Rosters.{is_run, runs_of}
use Rattle.command_rules.specs.declared.rosters.Roster.{Roster}
use Rattle.home_types.specs.declared.commands.Command.{Command}
use Rattle.home_types.specs.declared.items.Item.TheVariants.{Back, Failed, Ran}
use Rattle.home_types.specs.declared.items.Item.{Item}
use Rattle.home_types.specs.declared.kinds.Kind.{Kind}
use Rattle.home_types.specs.declared.worlds.Stand.{Stand}
use Rattle.std.specs.Prelude.{All, IsTrue, List, length, ◌<◌, ◌≡◌}

-- there is a kind for each device of the home
abbrev pub HasKinds : List Stand → List Kind → Type 0
HasKinds home kinds = length home ≡ length kinds

-- each command is on a device of the home
abbrev pub HasDevices : List Stand → List Command → Type 0
HasDevices home commands = All (λ c. c.device.0 < length home) commands

-- each command of each run of the roster is on a device of the home
abbrev pub HasRosterDevices : List Stand → Roster → Type 0
HasRosterDevices home roster =
    All (λ run. HasDevices home run.routine.commands.items) roster.runs.items

-- an item is of the roster and the home: its run is one of the roster's, its device one of the
-- home's
abbrev pub IsItemOf : List Stand → Roster → Item → Type 0
IsItemOf home roster (Ran r) = IsTrue (is_run (runs_of roster) r.0)
IsItemOf home roster (Failed d k) = d.0 < length home
IsItemOf home roster (Back d k) = d.0 < length home
