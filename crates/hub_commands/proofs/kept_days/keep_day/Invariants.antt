use Rattle.hub_commands.proofs.kept_days.keep_day.Given as goal
use Rattle.hub_commands.proofs.Prelude.{Beginning, IsKeptSoFar, IsReplayOf, kept_course, length, written, ◌≡◌}
use Rattle.legal_days.specs.ResumedDays.{GoesOnBehind}

-- as many windows are played, kept and written as were counted, behind the states that were kept
abbrev pub invariant-windows : goal.invariant-windows
invariant-windows g l =
    let D = g.B.Dev.Device in
    let K = g.K.Sink in
    let Q = g.Q.Disk in
    record {
      counted : length l.kept.day.windows.items ≡ l.counter;
      so_far : (begins : Beginning) × GoesOnBehind l.script l.before l.fn.journal.last begins
          × IsKeptSoFar IsReplayOf D.shows Q.told Q.seen Q.images Q.moment Q.images_since Q.faults l.script l.before (kept_course l.before begins) l.options
          (written (K.holds l.fn.sink) (K.holds l.sink) (K.faults l.fn.sink) (K.faults l.sink)) l.fn.journal.disk l.kept.day.home l.kept.day.windows.items l.kept.journal;
    }
