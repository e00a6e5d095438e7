-- What the lineage table of a window must be: it represents the configuration. Not said of the weak
-- model.
use Rattle.command_rules.specs.Rosters.{touches}
use Rattle.history_book.specs.Plans.{planned_end, planned_start}
use Rattle.history_book.specs.Readings.{Reading, did, is_doomed, is_live, passed_by, pends, view_of}
use Rattle.history_book.specs.Settings.{Setting}
use Rattle.home_types.specs.Numbers.{DeviceId, RunId}
use Rattle.home_types.specs.declared.commands.View.TheVariants.{Down, Up}
use Rattle.home_types.specs.declared.commands.View.{View}
use Rattle.home_types.specs.declared.items.Item.TheVariants.{Back, Failed, Ran}
use Rattle.home_types.specs.declared.items.Item.{Item}
use Rattle.lineage_table.specs.Accesses.{is_acquired, is_scheduled}
use Rattle.lineage_table.specs.Lineages.{LineageState, lineage_at}
use Rattle.lineage_table.specs.declared.accesses.Access.{Access}
use Rattle.lineage_table.specs.declared.accesses.Status.TheVariants.{Acquired, Released, Scheduled}
use Rattle.lineage_table.specs.declared.accesses.Status.{Status}
use Rattle.lock_leasing.specs.Configurations.{Grips, Point, grips_command}
use Rattle.lock_leasing.specs.Order.{committed_value, covers}
use Rattle.lock_leasing.specs.Words.{has_touched, is_undone}
use Rattle.std.specs.List.{list_any}
use Rattle.std.specs.Prelude.{Bool, List, None, [], false, if◌then◌else◌, length, map, not, option_map, true, ⊤, ◌&&◌, ◌<◌, ◌||◌, ◌∷◌, ◌≡◌}

-- Which runs have an access

-- the live run has the device in its footprint, and has not passed it by
abbrev pub uses : Setting → Reading → DeviceId → RunId → Bool
uses w n d r = is_live n r && touches w.runs r d && not (passed_by w n r d)

-- the runs with an access to the device, in line order: those that use it, but for those before a
-- committed run that wrote it
abbrev pub runs_with_access : Setting → Reading → DeviceId → List Item → List RunId
runs_with_access w n d [] = []
runs_with_access w n d (Ran r ∷ is) =
    if uses w n d r.0 && not (list_any (covers n d) is) then (r.0 ∷ runs_with_access w n d is)
    else runs_with_access w n d is
runs_with_access w n d (Failed e k ∷ is) = runs_with_access w n d is
runs_with_access w n d (Back e k ∷ is) = runs_with_access w n d is

-- How an access stands

-- the run is not done with the device: it has more to do there, or holds the grip of a command
abbrev pub is_at_work : Point → RunId → DeviceId → Bool
is_at_work p r d =
    (not (is_doomed p.reading r) && pends p.setting p.reading r d) || grips_command p.grips r d

-- scheduled until the first answer that is an access, released when the run is done with the
-- device, and acquired between
abbrev pub status_by_answers : Point → RunId → DeviceId → Status
status_by_answers p r d =
    if did p.reading r d then (if is_at_work p r d then Acquired else Released) else Scheduled

-- the one freedom: the access of a doomed run that has not touched the device may stand as released
abbrev pub may_be_passed : Reading → Grips → RunId → DeviceId → Bool
may_be_passed n g r d = is_doomed n r && not (has_touched n g r d)

abbrev pub some_in_use : List Access → Bool
some_in_use accesses = list_any (λ x. not (is_scheduled x.status)) accesses

abbrev pub view_when : Bool → View
view_when up = if up then Up else Down

-- the access tells of its run on the device, with these accesses behind it
pub record TellsOfRun (p : Point) (d : DeviceId) (x : Access)
    (rest : List Access) : Type 0 where
  pub status : may_be_passed p.reading p.grips x.run.0 d ≡ false
      → x.status ≡ status_by_answers p x.run.0 d
  -- where it is free it is not acquired, and it is released where a released or an acquired access
  -- stands behind it
  pub free : may_be_passed p.reading p.grips x.run.0 d ≡ true → is_acquired x.status ≡ false
  pub passed : may_be_passed p.reading p.grips x.run.0 d ≡ true → some_in_use rest ≡ true
      → x.status ≡ Released
  -- the view of a doomed run is not told
  pub view : is_doomed p.reading x.run.0 ≡ false
      → x.view ≡ option_map view_when (view_of p.reading x.run.0 d)
  -- the last value that it wrote, unless it is undone
  pub wrote : x.wrote ≡ (if is_undone p.reading p.grips x.run.0 d then None
      else ((p.reading.run x.run.0).on d).wrote)
  pub from : x.from ≡ planned_start (p.reading.run x.run.0).planned d
  pub to : x.to ≡ planned_end (p.reading.run x.run.0).planned d

abbrev pub EachTellsOfRun : Point → DeviceId → List Access → Type 0
EachTellsOfRun p d [] = ⊤
EachTellsOfRun p d (x ∷ xs) = TellsOfRun p d x xs × EachTellsOfRun p d xs

-- The table

-- the lineage is that of the device
pub record IsLineageOf (p : Point) (d : DeviceId)
    (s : LineageState) : Type 0 where
  pub committed : s.committed ≡ committed_value p.setting p.reading d
  pub runs : map (λ x. x.run.0) s.accesses ≡ runs_with_access p.setting p.reading d p.reading.line
  pub each : EachTellsOfRun p d s.accesses
  pub up : s.up ≡ p.reading.up d

-- the table represents the configuration: each device of the home has its lineage
pub record Represents (p : Point)
    (table : List LineageState) : Type 0 where
  pub devices : length table ≡ length p.setting.first
  pub each : (d : DeviceId) → d < length p.setting.first → IsLineageOf p d (lineage_at table d)
