-- The room of a lineage table for a run that joins the window.
use Rattle.command_rules.specs.Rosters.{Run, is_on}
use Rattle.home_types.specs.Numbers.{DeviceId}
use Rattle.lineage_table.specs.Lineages.{LineageState, lineage_at}
use Rattle.std.specs.List.{list_any}
use Rattle.std.specs.Prelude.{List, if◌then◌else◌, length, ℕ, ◌+◌, ◌<◌, ◌≡◌, ◌≤◌}

-- the table is as it was, but that there may be more room
pub record HasMoreRoom (table after : List LineageState) : Type 0 where
  pub size : length after ≡ length table
  pub room : DeviceId → ℕ
  pub rest : (d : DeviceId) → d < length table
      → lineage_at after d ≡ record (lineage_at table d) { room = room d }
  pub more : (d : DeviceId) → d < length table → (lineage_at table d).room ≤ room d

-- the table has room for one access more on each device of the run, and is as it was else
pub record HasRoomFor (q : Run) (table after : List LineageState) : Type 0 where
  pub size : length after ≡ length table
  pub room : DeviceId → ℕ
  pub rest : (d : DeviceId) → d < length table
      → lineage_at after d ≡ record (lineage_at table d) { room = room d }
  pub enough : (d : DeviceId) → d < length table
      → (lineage_at table d).room + (if list_any (is_on d) q.commands then 1 else 0) ≤ room d
