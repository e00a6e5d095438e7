use Rattle.day_report.proofs.run_entries.entries_by_run.Given as goal
use Rattle.day_report.proofs.Prelude.{AreApart, length, take, ◌≡◌}

-- the entries so far stand with their runs
abbrev pub invariant-entries : goal.invariant-entries
invariant-entries l =
    record {
      size : length l.parts.items ≡ l.runs;
      apart : AreApart l.parts.items (take l.kept-index l.history);
    }
