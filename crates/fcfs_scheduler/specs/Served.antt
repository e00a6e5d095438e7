-- The place of a run that is served when it comes.
use Rattle.history_book.specs.Lines.{split_at}
use Rattle.history_book.specs.Settings.{scheduler_of}
use Rattle.home_types.specs.Numbers.{LinePlace, Moment, RunId}
use Rattle.home_types.specs.declared.modes.Scheduler.TheVariants.{Fcfs}
use Rattle.lock_leasing.specs.Configurations.{Configuration, point_of, read_of}
use Rattle.lock_leasing.specs.Places.{At, scheduled_place}
use Rattle.serial_line.specs.Marks.{Mark, items_of}
use Rattle.std.specs.Prelude.{List, ◌≡◌}

-- the scheduler gives the place in each configuration with this line in which it is first come
-- first served, at each moment
abbrev pub IsServedAt : List Mark → RunId → LinePlace → Type 0
IsServedAt line r place =
    (s : Configuration) (moment : Moment) → items_of line ≡ (read_of s).line
    → scheduler_of s.setting.mode ≡ Fcfs
    → scheduled_place (point_of s) r moment ≡ At (split_at (read_of s).line place)
