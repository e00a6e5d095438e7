use Rattle.hub_commands.proofs.runs.run_day.Given as goal
use Rattle.hub_commands.proofs.Prelude.{IsGoingOn, IsRunWithin, IsToldOf, length, new_course, written, ◌≡◌}

-- as many windows are played and written as were counted, and who looks on was told of them
abbrev pub invariant-windows : goal.invariant-windows
invariant-windows g l =
    let D = g.B.Dev.Device in
    let K = g.K.Sink in
    record {
      counted : length l.day.windows.items ≡ l.counter;
      going : IsGoingOn (IsRunWithin (g.C.Clock.earliest l.clock) (g.C.Clock.latest l.clock)) D.shows (new_course l.script) l.options
          (written (K.holds l.fn.sink) (K.holds l.sink) (K.faults l.fn.sink) (K.faults l.sink)) l.day.home l.day.windows.items;
      stands : g.O.Onlooker.stands l.onlooker;
      same : g.O.Onlooker.posts_on l.onlooker ≡ g.O.Onlooker.posts_on l.fn.onlooker;
      told : IsToldOf (g.O.Onlooker.told l.onlooker) l.day.windows.items;
    }
