use Rattle.lineage_table.proofs.tables.Table.search_device.Given as goal
use Rattle.lineage_table.proofs.Prelude.{accesses_at, false, has_access, length, ℕ, ◌<◌, ◌≡◌, ◌≤◌}

-- the run has no access to a device so far
abbrev pub invariant-devices : goal.invariant-devices
invariant-devices l = (l.fn.from.0 ≤ l.d) × (l.d-end ≡ length l.self) × ((e : ℕ) → l.fn.from.0 ≤ e → e < l.d → has_access l.r.0 (accesses_at l.self e) ≡ false)
