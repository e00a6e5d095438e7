-- A run joins an open window: when it may, and what the hub shows after it.
use Rattle.command_rules.specs.Rosters.{Run}
use Rattle.history_book.specs.Joined.{with_joined}
use Rattle.history_book.specs.Settings.{Setting, is_device}
use Rattle.home_types.specs.Kinds.{kind_at}
use Rattle.home_types.specs.Limits.{most_commands, most_runs}
use Rattle.home_types.specs.Numbers.{CommandIndex}
use Rattle.home_types.specs.declared.commands.Command.{Command}
use Rattle.home_types.specs.declared.numbers.RunNo.{RunNo}
use Rattle.hub_core.specs.OpenHubs.{OpenHub}
use Rattle.hub_core.specs.Openings.{names_values_of}
use Rattle.lock_leasing.specs.Configurations.{Configuration}
use Rattle.std.specs.Prelude.{IsTrue, Some, length, slice_get, ◌&&◌, ◌<◌, ◌≡◌, ◌≤◌}

-- the run may join the window: there is a number left for it, its commands are ones that a window on
-- this home may have, and it follows a run of the window, or none
pub record MayJoin (w : Setting) (q : Run) : Type 0 where
  pub number : length w.runs < most_runs
  pub few_commands : length q.commands ≤ most_commands
  pub homed : (k : CommandIndex) (c : Command) → slice_get q.commands k ≡ Some c
      → IsTrue (is_device w c.device.0 && names_values_of (kind_at w.kinds c.device.0) c.job)
  pub follows : (f : RunNo) → q.follows ≡ Some f → (0 < f.0) × (f.0 ≤ length w.runs)

-- the window has the run as its last one, and nothing else has changed
abbrev pub joined : {D : Type 0} → OpenHub D → Run → OpenHub D
joined s q = record s { setting = with_joined s.setting q }

-- .. of a configuration
abbrev pub joined_to : Configuration → Run → Configuration
joined_to s q = record s { setting = with_joined s.setting q }
