-- What the line and the lineage table of a window become at its steps, and what these ask for.
use Rattle.command_rules.specs.Apart.{meet}
use Rattle.command_rules.specs.ClosedSets.{HoldsFirst, IsClosed, rearranged}
use Rattle.command_rules.specs.Rosters.{Run, run_no, touches}
use Rattle.home_types.specs.Numbers.{DeviceId, RunId}
use Rattle.home_types.specs.declared.commands.View.{View}
use Rattle.home_types.specs.declared.items.Item.{Item}
use Rattle.home_types.specs.declared.modes.Scheduler.TheVariants.{Fcfs, JustInTime, Timeline}
use Rattle.home_types.specs.declared.modes.Scheduler.{Scheduler}
use Rattle.history_book.specs.declared.planned_uses.PlannedUse.{PlannedUse}
use Rattle.lineage_table.specs.Accesses.{is_scheduled, status_of}
use Rattle.lineage_table.specs.Lineages.{LineageState, released, removed, scheduled}
use Rattle.lineage_table.specs.declared.accesses.Status.TheVariants.{Acquired, Scheduled}
use Rattle.serial_line.specs.Marks.{Marked, front_of, items_of}
use Rattle.std.specs.Prelude.{Bool, List, None, Option, Some, false, get_or, if◌then◌else◌, length, option_map, true, unwrap_or, ℕ, ◌≡◌}
use Rattle.window_order.specs.TableChanges.{IsWaiting, answer_noted, first_with_access, passed_if, rescheduled}

-- sealed are the items before the first run that has not ended
abbrev pub IsSealed : Marked → Type 0
IsSealed line = line.sealed ≡ front_of line.marks

-- the items of the set before the others, each part in its order, where runs are placed by the
-- timeline; else as they stand
abbrev pub arranged : {A : Type 0} → Scheduler → List Bool → List A → List A
arranged Fcfs set items = items
arranged JustInTime set items = items
arranged Timeline set items = rearranged set items

-- the items of the set may be brought before the others: it is closed, and has those that are
-- sealed
pub record MayArrange (set : List Bool) (line : Marked) : Type 0 where
  pub size : length set ≡ length line.marks
  pub closed : IsClosed (meet line.runs) set (items_of line.marks)
  pub sealed : HoldsFirst line.sealed set

-- the run has not touched the device: its access is scheduled
abbrev pub is_first : RunId → LineageState → Bool
is_first r s = unwrap_or (option_map is_scheduled (status_of r s.accesses)) false

-- the run is not done with the device: its access is acquired, or scheduled
abbrev pub IsUnreleased : RunId → LineageState → Type 0
IsUnreleased r s = status_of r s.accesses ≡ Some (if is_first r s then Scheduled else Acquired)

-- the run may have an access on the device: that is acquired, or scheduled where none is
pub record MayNote (r : RunId) (s : LineageState) : Type 0 where
  pub status : IsUnreleased r s
  pub first : is_first r s ≡ true → IsWaiting r s

-- the lineage of a device on which the run, which is planned to use it so, stands before those of
-- these items; as it is where no use is planned
abbrev pub scheduled_so : RunId → List Item → Option PlannedUse → LineageState → LineageState
scheduled_so r back None s = s
scheduled_so r back (Some used) s =
    scheduled (first_with_access s.accesses back) (record {
      run = run_no r;
      status = Scheduled;
      view = None;
      wrote = None;
      from = used.from;
      to = used.to;
    }) (rescheduled (first_with_access s.accesses back) s)

-- .. on each of its devices, with these uses
abbrev pub scheduled_with : List Run → RunId → List (Option PlannedUse) → List Item → DeviceId
    → LineageState → LineageState
scheduled_with runs r uses back d s =
    if touches runs r d then scheduled_so r back (get_or uses d None) s else s

-- the run's answer on the device is noted; where it has not touched it before, the scheduled
-- accesses before its own are passed first, and its own is acquired
abbrev pub noted_first : RunId → Bool → View → Option ℕ → Bool → LineageState → LineageState
noted_first r first view wrote last s = answer_noted r first view wrote last (passed_if first r s)

-- the run has skipped its last command on the device: its access is gone where the run has not
-- touched the device, and else released
abbrev pub left_by : RunId → Bool → LineageState → LineageState
left_by r first s = if first then removed r s else released r s
