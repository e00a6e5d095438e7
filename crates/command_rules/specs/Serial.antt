-- The serial execution of a list of items.
use Rattle.command_rules.specs.Rosters.{Run, commands_of}
use Rattle.home_types.specs.Commands.{Execution, routine_execution}
use Rattle.home_types.specs.HomeStates.{stand_at, with_up}
use Rattle.home_types.specs.declared.commands.Answer.{Answer}
use Rattle.home_types.specs.declared.items.Item.TheVariants.{Back, Failed, Ran}
use Rattle.home_types.specs.declared.items.Item.{Item}
use Rattle.home_types.specs.declared.kinds.Kind.{Kind}
use Rattle.home_types.specs.declared.numbers.RunNo.{RunNo}
use Rattle.home_types.specs.declared.worlds.Stand.{Stand}
use Rattle.std.specs.Prelude.{Bool, List, [], false, fold, not, true, ◌++◌, ◌||◌, ◌∷◌}

-- what a run answered
pub record Served : Type 0 where
  pub run : RunNo
  pub answers : List Answer

-- a serial execution under way; it goes on after an item that does not apply, and is then refused
pub record SerialRun : Type 0 where
  pub home : List Stand
  pub answers : List Served
  pub refused : Bool

abbrev pub with_routine : SerialRun → RunNo → Execution → SerialRun
with_routine s r x = record {
  home = x.home;
  answers = s.answers ++ record { run = r; answers = x.answers } ∷ [];
  refused = s.refused || x.refused;
}

-- a run is its whole routine; a failure applies to a device that is up, a restart to one that is
-- down
abbrev pub serve : List Run → List Kind → SerialRun → Item → SerialRun
serve runs kinds s (Ran r) =
    with_routine s r (routine_execution kinds (commands_of runs r.0) s.home)
serve runs kinds s (Failed d k) = record {
  home = with_up s.home d.0 false;
  answers = s.answers;
  refused = s.refused || not (stand_at s.home d.0).up;
}
serve runs kinds s (Back d k) = record {
  home = with_up s.home d.0 true;
  answers = s.answers;
  refused = s.refused || (stand_at s.home d.0).up;
}

-- the items one after another, from this state of the home
abbrev pub serial_execution : List Run → List Kind → List Stand → List Item → SerialRun
serial_execution runs kinds home items =
    fold (serve runs kinds) (record { home = home; answers = []; refused = false }) items
