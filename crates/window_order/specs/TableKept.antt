-- What is kept of the lineage table of a window: it is what the reading of the history and the
-- grips that are out make it, but for the accesses of doomed runs that never touched the device, of
-- which some were passed.
use Rattle.command_rules.specs.Items.{of_run}
use Rattle.command_rules.specs.Rosters.{Run, is_on, run_no}
use Rattle.history_book.specs.Plans.{planned_end, planned_start}
use Rattle.history_book.specs.Readings.{Reading, has_written, is_committed, view_of}
use Rattle.history_book.specs.Settings.{Setting}
use Rattle.home_types.specs.Numbers.{DeviceId, RunId}
use Rattle.home_types.specs.declared.commands.View.TheVariants.{Down}
use Rattle.home_types.specs.declared.items.Item.TheVariants.{Back, Failed, Ran}
use Rattle.home_types.specs.declared.items.Item.{Item}
use Rattle.lineage_table.specs.Lineages.{LineageState, lineage_at}
use Rattle.lineage_table.specs.declared.accesses.Access.{Access}
use Rattle.lineage_table.specs.declared.accesses.Status.TheVariants.{Released}
use Rattle.lock_leasing.specs.Configurations.{Point}
use Rattle.lock_leasing.specs.Order.{committed_value}
use Rattle.lock_leasing.specs.Tables.{may_be_passed, status_by_answers, uses, view_when}
use Rattle.lock_leasing.specs.Words.{is_undone}
use Rattle.std.specs.List.{list_any}
use Rattle.std.specs.Prelude.{Bool, List, None, Some, [], if◌then◌else◌, is_none, length, not, option_map, suc, true, ℕ, ◌&&◌, ◌+◌, ◌<◌, ◌∷◌, ◌≡◌, ◌≤◌}

-- The accesses

-- the access of the run: where it was passed, released by a run that sees the device down
abbrev pub access_read : Point → (RunId → Bool) → DeviceId → RunId → Access
access_read p passed d r = record {
  run = run_no r;
  status = if passed r then Released else status_by_answers p r d;
  view = if passed r then Some Down else option_map view_when (view_of p.reading r d);
  wrote = if is_undone p.reading p.grips r d then None else ((p.reading.run r).on d).wrote;
  from = planned_start (p.reading.run r).planned d;
  to = planned_end (p.reading.run r).planned d;
}

-- the accesses of the runs that have one, in the order of these items, but for those before a run
-- that covers them
abbrev pub accesses_along : (RunId → Bool) → (RunId → Bool) → (RunId → Access)
    → List Item → List Access
accesses_along has_one covering access [] = []
accesses_along has_one covering access (Ran r ∷ is) =
    if has_one r.0 && not (list_any (of_run covering) is)
    then (access r.0 ∷ accesses_along has_one covering access is)
    else accesses_along has_one covering access is
accesses_along has_one covering access (Failed e k ∷ is) = accesses_along has_one covering access is
accesses_along has_one covering access (Back e k ∷ is) = accesses_along has_one covering access is

-- the run is committed, and wrote the device
abbrev pub commits_write : Reading → DeviceId → RunId → Bool
commits_write n d r = is_committed n r && has_written n r d

-- the accesses to the device: of the live runs that use it, but for those before a committed run
-- that wrote it
abbrev pub accesses_read : Point → (RunId → Bool) → DeviceId
    → List Item → List Access
accesses_read p passed d line =
    accesses_along (uses p.setting p.reading d) (commits_write p.reading d)
    (access_read p passed d) line

-- Room

-- how many of these runs, which count from this number, have the device in their footprint and are
-- not placed
abbrev pub unplaced_among : Reading → DeviceId → RunId → List Run → ℕ
unplaced_among n d r [] = 0
unplaced_among n d r (run ∷ runs) =
    (if list_any (is_on d) run.commands && is_none (n.run r).placed then 1 else 0)
    + unplaced_among n d (suc r) runs

abbrev pub unplaced_on : Setting → Reading → DeviceId → ℕ
unplaced_on w n d = unplaced_among n d 1 w.runs

-- The table

-- the lineage is the device's, with room for the runs that are not placed
pub record LineageIsKept (p : Point) (d : DeviceId)
    (s : LineageState) : Type 0 where
  -- the runs whose access was passed, each of which may be
  pub passed : RunId → Bool
  pub may_pass : (r : RunId) → passed r ≡ true → may_be_passed p.reading p.grips r d ≡ true
  pub committed : s.committed ≡ committed_value p.setting p.reading d
  pub accesses : s.accesses ≡ accesses_read p passed d p.reading.line
  pub room : unplaced_on p.setting p.reading d ≤ s.room
  pub up : s.up ≡ p.reading.up d

pub record TableIsKept (p : Point)
    (table : List LineageState) : Type 0 where
  pub devices : length table ≡ length p.setting.first
  pub each : (d : DeviceId) → d < length p.setting.first → LineageIsKept p d (lineage_at table d)
