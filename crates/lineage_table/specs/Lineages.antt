-- The lineage of a device, what each call makes of it, and the lineages of a home.
use Rattle.command_rules.specs.Rosters.{Run, is_on}
use Rattle.home_types.specs.HomeStates.{stand_at}
use Rattle.home_types.specs.Limits.{most_devices}
use Rattle.home_types.specs.Numbers.{DeviceId, RunId}
use Rattle.home_types.specs.declared.commands.View.{View}
use Rattle.home_types.specs.declared.numbers.RunNo.{RunNo}
use Rattle.home_types.specs.declared.worlds.Stand.{Stand}
use Rattle.lineage_table.specs.Accesses.{IsDisciplined, access_of, accesses_behind, accesses_without, put_access_before, value_standing, with_change, written_by}
use Rattle.lineage_table.specs.declared.accesses.Access.{Access}
use Rattle.lineage_table.specs.declared.accesses.Status.TheVariants.{Acquired, Released}
use Rattle.std.specs.List.{list_any}
use Rattle.std.specs.Prelude.{Bool, List, None, Option, Some, [], count_by, false, length, slice_index_or, slice_set, unwrap_or, ℕ, ◌+◌, ◌-◌, ◌<◌, ◌≡◌, ◌≤◌}

-- a device's committed value, its accesses in line order, how many more it takes, and whether it is
-- counted up
pub record LineageState : Type 0 where
  pub committed : ℕ
  pub accesses : List Access
  pub room : ℕ
  pub up : Bool

-- One lineage after a call

-- an access is put into its place, and takes room
abbrev pub scheduled : Option RunNo → Access → LineageState → LineageState
scheduled before access s =
    record s { accesses = put_access_before before access s.accesses; room = s.room - 1 }

-- the run has its first answer on the device, and sees it so from then on
abbrev pub acquired : RunId → View → LineageState → LineageState
acquired r view s = record s {
  accesses = with_change r (λ x. record x { status = Acquired; view = Some view }) s.accesses;
}

-- the run wrote the value
abbrev pub with_value_written : RunId → ℕ → LineageState → LineageState
with_value_written r v s =
    record s { accesses = with_change r (λ x. record x { wrote = Some v }) s.accesses }

-- the run is done with the device
abbrev pub released : RunId → LineageState → LineageState
released r s =
    record s { accesses = with_change r (λ x. record x { status = Released }) s.accesses }

-- what the run wrote is undone
abbrev pub undone : RunId → LineageState → LineageState
undone r s = record s { accesses = with_change r (λ x. record x { wrote = None }) s.accesses }

-- only these of its accesses are left; each of the others leaves its room
abbrev pub with_left : List Access → LineageState → LineageState
with_left accesses s =
    record s { accesses = accesses; room = s.room + (length s.accesses - length accesses) }

-- the access of the run is gone
abbrev pub removed : RunId → LineageState → LineageState
removed r s = with_left (accesses_without r s.accesses) s

-- the run's value is committed: its access and those before it are gone
abbrev pub settled : RunId → LineageState → LineageState
settled r s =
    record (with_left (accesses_behind r s.accesses) s) {
      committed = unwrap_or (written_by r s.accesses) s.committed;
    }

-- where the run wrote the device, its value is committed, and its access and those before it leave;
-- else its access alone leaves
abbrev pub without_access : RunId → Access → LineageState → LineageState
without_access r x s = by_value x.wrote
  where
    by_value : Option ℕ → LineageState
    by_value (Some v) = settled r s
    by_value None = removed r s

-- the lineage when the run has committed: as it was, where the run has no access there
abbrev pub committed_lineage : RunId → LineageState → LineageState
committed_lineage r s = by_access (access_of r s.accesses)
  where
    by_access : Option Access → LineageState
    by_access None = s
    by_access (Some x) = without_access r x s

abbrev pub with_committed : ℕ → LineageState → LineageState
with_committed v s = record s { committed = v }

abbrev pub counted_up : Bool → LineageState → LineageState
counted_up up s = record s { up = up }

-- with room for one access more
abbrev pub with_more_room : LineageState → LineageState
with_more_room s = record s { room = s.room + 1 }

-- The lineages of a home

-- the lineage of a device that is none of the home
abbrev pub no_lineage : LineageState
no_lineage = record { committed = 0; accesses = []; room = 0; up = false }

abbrev pub lineage_at : List LineageState → DeviceId → LineageState
lineage_at table d = slice_index_or table d no_lineage

-- the accesses to the device
abbrev pub accesses_at : List LineageState → DeviceId → List Access
accesses_at table d = (lineage_at table d).accesses

-- what is true of the lineages of every table: a device has a number, and the accesses to each are
-- in turn
pub record IsTable (table : List LineageState) : Type 0 where
  pub few : length table ≤ most_devices
  pub turns : (d : DeviceId) → IsDisciplined (accesses_at table d)

-- the table with this change to the lineage of the device
abbrev pub with_lineage : List LineageState → DeviceId → (LineageState → LineageState)
    → List LineageState
with_lineage table d change = slice_set table d (change (lineage_at table d))

-- how many runs have the device in their footprint
abbrev pub runs_on : List Run → DeviceId → ℕ
runs_on runs d = count_by (λ run. list_any (is_on d) run.commands) runs

-- a lineage as a window opens: nothing but what the device has, with room for so many accesses and
-- for no more
pub record IsNewLineage (stand : Stand) (runs : ℕ) (s : LineageState) : Type 0 where
  pub committed : s.committed ≡ stand.value
  pub up : s.up ≡ stand.up
  pub none : s.accesses ≡ []
  pub room : s.room ≡ runs

-- each device of the home has a new lineage, with just the room for the runs that have it in their
-- footprint
pub record TableIsOpened (runs : List Run) (home : List Stand)
    (table : List LineageState) : Type 0 where
  pub devices : length table ≡ length home
  pub each : (d : DeviceId) → d < length home
      → IsNewLineage (stand_at home d) (runs_on runs d) (lineage_at table d)

-- the value that stands on the device
abbrev pub stand_of_lineage : LineageState → ℕ
stand_of_lineage s = value_standing s.committed s.accesses
