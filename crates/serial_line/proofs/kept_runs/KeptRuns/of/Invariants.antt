use Rattle.serial_line.proofs.Prelude.{HasRoomForRuns, length, runs_of, ◌≡◌}
use Rattle.serial_line.proofs.KeptRuns.{AreFirstKept}
use Rattle.serial_line.proofs.kept_runs.KeptRuns.of.Given as goal

-- the runs up to here are kept, and there is room
abbrev pub invariant-runs : goal.invariant-runs
invariant-runs l = record {
  end : l.at-end ≡ length l.roster.runs.items;
  kept : AreFirstKept l.at (runs_of l.roster) l.runs.items;
  room : HasRoomForRuns l.runs;
}
