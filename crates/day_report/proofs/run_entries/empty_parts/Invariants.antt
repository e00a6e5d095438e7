use Rattle.day_report.proofs.run_entries.empty_parts.Given as goal
use Rattle.day_report.proofs.Prelude.{AreApart, [], length, ◌≡◌, ◌≤◌}

-- a part with nothing in it for each run so far
abbrev pub invariant-runs : goal.invariant-runs
invariant-runs l =
    record {
      size : length l.parts.items ≡ l.counter;
      room : l.runs ≤ l.parts.cap;
      apart : AreApart l.parts.items [];
    }
