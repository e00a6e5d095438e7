use Rattle.lineage_table.proofs.Prelude.{false, is_in, length, most_runs, ℕ, ◌+◌, ◌<◌, ◌≡◌, ◌≤◌}
use Rattle.lineage_table.proofs.run_devices.RunDevices.open.Given as goal

-- there is an empty set for each number so far
abbrev pub invariant-runs : goal.invariant-runs
invariant-runs l = record {
  size : length l.sets.items ≡ l.counter;
  room : most_runs + 1 ≤ l.sets.cap;
  none : (r d : ℕ) → r < length l.sets.items → is_in l.sets.items r d ≡ false;
}
