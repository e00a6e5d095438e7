use Rattle.hub_commands.proofs.room_days.run_room_day.Given as goal
use Rattle.hub_commands.proofs.Prelude.{IsRoomDay, IsWrittenSoFar, length, written, ◌≡◌}

-- as many windows are worked, told and written as were counted
abbrev pub invariant-windows : goal.invariant-windows
invariant-windows g l =
    let D = g.B.Dev.Device in
    let K = g.K.Sink in
    record {
      counted : length l.day.windows.items ≡ l.counter;
      day : IsRoomDay (g.C.Clock.earliest l.clock) (g.C.Clock.latest l.clock) D.shows l.script l.mode l.day.windows.items l.day;
      written : IsWrittenSoFar l.script l.mode (written (K.holds l.fn.sink) (K.holds l.sink) (K.faults l.fn.sink) (K.faults l.sink)) l.day.windows.items;
    }
