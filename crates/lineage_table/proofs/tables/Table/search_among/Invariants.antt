use Rattle.lineage_table.proofs.tables.Table.search_among.Given as goal
use Rattle.lineage_table.proofs.Prelude.{accesses_at, has_access, length, nat_lt, ℕ, ◌&&◌, ◌≡◌}
use Rattle.std.specs.FinSet as set

-- of the devices so far those are found that are looked for
abbrev pub invariant-devices : goal.invariant-devices
invariant-devices l = (l.d-end ≡ length l.self) × ((e : ℕ) → set.contains l.found e ≡ (nat_lt e l.d && (has_access l.r.0 (accesses_at l.self e) && set.contains l.devices e)))
