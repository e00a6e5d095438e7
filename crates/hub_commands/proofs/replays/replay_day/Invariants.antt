use Rattle.hub_commands.proofs.replays.replay_day.Given as goal
use Rattle.hub_commands.proofs.Prelude.{IsGoingOn, IsReplayOf, length, new_course, written, ◌≡◌}

-- as many windows are played and written as were counted
abbrev pub invariant-windows : goal.invariant-windows
invariant-windows g l =
    let D = g.B.Dev.Device in
    let K = g.K.Sink in
    record {
      counted : length l.day.windows.items ≡ l.counter;
      going : IsGoingOn IsReplayOf D.shows (new_course l.script) l.options
          (written (K.holds l.fn.sink) (K.holds l.sink) (K.faults l.fn.sink) (K.faults l.sink)) l.day.home l.day.windows.items;
    }
