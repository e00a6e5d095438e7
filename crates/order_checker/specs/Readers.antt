-- What the code of the order line has, as the definitions see it.
use Rattle.command_rules.specs.Rosters.{commands_of, runs_of}
use Rattle.home_types.specs.Limits.{most_commands, most_devices, most_runs}
use Rattle.home_types.specs.declared.items.Item.TheVariants.{Back, Failed, Ran}
use Rattle.home_types.specs.declared.items.Item.{Item}
use Rattle.order_checker.specs.Ends.{plain_ends}
use Rattle.order_checker.specs.OrderLines.{OrderSetting}
use Rattle.order_checker.specs.declared.order_lines.OrderReader.{OrderReader}
use Rattle.order_checker.specs.Lines.{lines_of}
use Rattle.order_checker.specs.Windows.{DayProgress, RunsTold}
use Rattle.order_checker.specs.declared.verdicts.Halt.TheVariants.{At, Memory}
use Rattle.order_checker.specs.declared.verdicts.Halt.{Halt}
use Rattle.order_checker.specs.declared.verdicts.Verdict.TheVariants.{Differs}
use Rattle.order_checker.specs.declared.verdicts.Verdict.{Verdict}
use Rattle.order_checker.specs.declared.windows.Progress.{Progress}
use Rattle.order_checker.specs.declared.windows.RunLines.{RunLines}
use Rattle.std.specs.Prelude.{All, Err, Ok, Result, length, ℕ, ⊤, ◌<◌, ◌≡◌, ◌≤◌}

abbrev pub setting_for_order : OrderReader → OrderSetting
setting_for_order reader =
    record {
      devices = reader.devices.now;
      home = reader.home.now.items;
      runs = runs_of reader.roster.now;
      ends = plain_ends reader.ends.now;
    }

-- each run has an end and each device a stand, there are no more of them and of commands than the
-- limits, and each command is on one of the devices
pub record IsReader (reader : OrderReader) : Type 0 where
  pub ends : length reader.ends.now ≡ length reader.roster.now.runs.items
  pub few_runs : length reader.ends.now ≤ most_runs
  pub home : length reader.home.now.items ≡ length reader.devices.now
  pub few_devices : length reader.devices.now ≤ most_devices
  pub few_commands : (r : ℕ) → length (commands_of (runs_of reader.roster.now) r) ≤ most_commands
  pub commands : (r : ℕ) → All (λ c. c.device.0 < length reader.devices.now)
      (commands_of (runs_of reader.roster.now) r)

-- what the lines of the runs told
abbrev pub runs_told : RunLines → RunsTold
runs_told told = record { ends = plain_ends told.ends.items; lines = lines_of told.rest.now }

-- what was read of a record so far
abbrev pub progress_told : Progress → DayProgress
progress_told so_far =
    record {
      windows = so_far.windows;
      home = so_far.home.items;
      lines = lines_of so_far.rest.now;
      runs = so_far.runs;
      committed = so_far.committed;
    }

-- the answer of a walk over windows: what was read, or the place with its window, or want of memory
abbrev pub AreWindowsTold : Result Progress (ℕ × Halt) → Result DayProgress Verdict → Type 0
AreWindowsTold (Ok so_far) told = told ≡ Ok (progress_told so_far)
AreWindowsTold (Err (k, Memory)) told = ⊤
AreWindowsTold (Err (k, At place)) told = told ≡ Err (Differs k place)

-- an event is of one of so many devices
abbrev pub IsInHome : ℕ → Item → Type 0
IsInHome devices (Ran r) = ⊤
IsInHome devices (Failed d k) = d.0 < devices
IsInHome devices (Back d k) = d.0 < devices
