-- Planned times, and where a run that is placed stands in the line.
use Rattle.command_rules.specs.Items.{of_run}
use Rattle.command_rules.specs.Rosters.{commands_of, reads_first, writes_on}
use Rattle.history_book.specs.Lines.{behind}
use Rattle.history_book.specs.Readings.{Planned, Reading, has_written, is_committed, is_live, is_open, passed_by}
use Rattle.history_book.specs.Settings.{Setting, devices_of, scheduler_of}
use Rattle.home_types.specs.Numbers.{DeviceId, Moment, RunId}
use Rattle.home_types.specs.declared.commands.Command.{Command}
use Rattle.home_types.specs.declared.items.Item.{Item}
use Rattle.home_types.specs.declared.items.Item.TheVariants.{Back, Failed, Ran}
use Rattle.home_types.specs.declared.modes.Scheduler.{Scheduler}
use Rattle.home_types.specs.declared.modes.Scheduler.TheVariants.{Fcfs, JustInTime, Timeline}
use Rattle.std.specs.List.{list_any}
use Rattle.std.specs.Prelude.{Bool, List, [], find, fold, if◌then◌else◌, max, min, not, option_map, unwrap_or, ◌&&◌, ◌++◌, ◌+◌, ◌==◌, ◌∷◌}

-- where sums of times stay
abbrev pub greatest : Moment
greatest = 18446744073709551615

-- the planned start on the device: that of the run's first command there
abbrev pub planned_start : List Planned → DeviceId → Moment
planned_start planned d = unwrap_or (option_map (λ p. p.from) (find (λ p. p.device == d) planned)) 0

-- the planned end on the device: that of the run's last command there
abbrev pub planned_end : List Planned → DeviceId → Moment
planned_end planned d = fold (λ t p. if p.device == d then p.to else t) 0 planned

-- a committed run behind it in the line has written the device
abbrev pub is_overwritten : Reading → RunId → DeviceId → Bool
is_overwritten n x d =
    list_any (of_run (λ y. is_committed n y && has_written n y d)) (behind x n.line)

-- the planned end of the whole run: the largest one on those of its devices that no committed run
-- behind it has written
abbrev pub whole_end : Setting → Reading → RunId → Moment
whole_end w n x =
    fold (λ t d. if counts d then max t (planned_end (n.run x).planned d) else t) 0 (devices_of w x)
  where
    counts : DeviceId → Bool
    counts d = not (passed_by w n x d) && not (is_overwritten n x d)

-- when the device is free for a run behind these items: the live runs among them that are not done
-- with it have their planned end there, and, where the new run reads it first, those that write it
-- their whole end
abbrev pub free : Setting → Reading → RunId → List Item → DeviceId → Moment
free w n r front d = fold (λ t i. max t (end_of i)) 0 front
  where
    end_of_run : RunId → Moment
    end_of_run x = max (if is_open w n x d then planned_end (n.run x).planned d else 0)
        (if is_live n x && reads_first w.runs r d && writes_on w.runs x d then whole_end w n x
        else 0)

    end_of : Item → Moment
    end_of (Ran x) = end_of_run x.0
    end_of (Failed e k) = 0
    end_of (Back e k) = 0

-- times in the making: when the command before ends, and the commands planned so far
pub record Planning : Type 0 where
  pub clock : Moment
  pub planned : List Planned

-- a command starts when the one before it ends and its device is free, and takes as long as its
-- estimate
abbrev pub plan_more : (DeviceId → Moment) → Planning → Command → Planning
plan_more free p c =
    record {
      clock = min (max p.clock (free c.device.0) + c.ms) greatest;
      planned =
          p.planned ++ record {
            device = c.device.0;
            from = max p.clock (free c.device.0);
            to = min (max p.clock (free c.device.0) + c.ms) greatest;
          } ∷ [];
    }

-- the planned times of a run that is placed behind these items at this moment; the timeline alone
-- waits for devices
abbrev pub planned_times : Setting → Reading → RunId → List Item → Moment → List Planned
planned_times w n r front m =
    (fold (plan_more (waits (scheduler_of w.mode))) (record { clock = m; planned = [] })
    (commands_of w.runs r)).planned
  where
    waits : Scheduler → DeviceId → Moment
    waits Fcfs d = 0
    waits JustInTime d = 0
    waits Timeline d = free w n r front d
