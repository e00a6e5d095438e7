-- What a window that closes leaves of its line and its lineage table.
use Rattle.home_types.specs.Listed.{Listed}
use Rattle.home_types.specs.declared.worlds.Stand.{Stand}
use Rattle.lineage_table.specs.Accesses.{value_standing}
use Rattle.lineage_table.specs.Lineages.{LineageState}
use Rattle.std.specs.Prelude.{[], ℕ, ◌≡◌, ◌≤◌}

-- an empty list with so much room
abbrev pub IsEmptyFor : {T : Type 0} → Listed T → ℕ → Type 0
IsEmptyFor list n = (list.items ≡ []) × (n ≤ list.spare)

-- how the lineage of a device leaves it: at the value that stands, up or down as it is counted
abbrev pub stand_left : LineageState → Stand
stand_left s = record { value = value_standing s.committed s.accesses; up = s.up }
