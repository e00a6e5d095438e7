-- What is undone next of a run.
use Rattle.abort_rollback.specs.declared.undos.Undo.TheVariants.{Drive, Drop, Finished}
use Rattle.abort_rollback.specs.declared.undos.Undo.{Undo}
use Rattle.command_rules.specs.Rosters.{device_no}
use Rattle.home_types.specs.Numbers.{DeviceId, RunId}
use Rattle.lineage_table.specs.Accesses.{accesses_without, effective_writer, value_standing}
use Rattle.lineage_table.specs.Lineages.{LineageState, accesses_at, lineage_at}
use Rattle.std.specs.List.{range_with_len}
use Rattle.std.specs.Prelude.{Bool, List, Option, false, find, if◌then◌else◌, length, option_map, unwrap_or, ℕ, ◌==◌}

-- the run has the effective write on the device
abbrev pub has_effective_write : List LineageState → RunId → DeviceId → Bool
has_effective_write table r d =
    unwrap_or (option_map (λ q. q.0 == r) (effective_writer (accesses_at table d))) false

-- the smallest such device of the home
abbrev pub first_effective : List LineageState → RunId → Option DeviceId
first_effective table r = find (has_effective_write table r) (range_with_len 0 (length table))

-- the value that would stand on the device without the run's access
abbrev pub stand_without : List LineageState → RunId → DeviceId → ℕ
stand_without table r d =
    value_standing (lineage_at table d).committed (accesses_without r (accesses_at table d))

-- the run's write on the device is undone: where the device is counted down it is dropped, else the
-- value that stands without it is driven
abbrev pub undo_on : List LineageState → RunId → DeviceId → Undo
undo_on table r d =
    if (lineage_at table d).up then Drive (device_no d) (stand_without table r d)
    else Drop (device_no d)

-- the next undo of the run: on the smallest device of the home on which it has the effective write
abbrev pub next_undo : List LineageState → RunId → Undo
next_undo table r = unwrap_or (option_map (undo_on table r) (first_effective table r)) Finished
