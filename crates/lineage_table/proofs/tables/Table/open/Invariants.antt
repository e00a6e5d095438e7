use Rattle.lineage_table.proofs.Prelude.{IsNewLineage, length, lineage_at, runs_of, runs_on, ℕ, ◌<◌, ◌≡◌, ◌≤◌}
use Rattle.home_types.specs.HomeStates.{stand_at}
use Rattle.lineage_table.proofs.tables.Table.open.Given as goal

abbrev pub invariant-devices : goal.invariant-devices
invariant-devices l = record {
  size : length l.lineages.items ≡ l.d;
  room : length l.stands ≤ l.lineages.cap;
  each : (d : ℕ) → d < l.d → IsNewLineage (stand_at l.stands d) (runs_on (runs_of l.roster) d) (lineage_at l.lineages.items d);
}
