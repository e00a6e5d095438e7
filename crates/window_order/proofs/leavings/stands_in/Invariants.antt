use Rattle.window_order.proofs.leavings.stands_in.Given as goal
use Rattle.window_order.specs.Leavings.{stand_left}
use Rattle.window_order.proofs.Prelude.{length, map, take, ◌+◌, ◌≡◌, ◌≤◌}

-- the devices up to here stand so, and there is room for the others
abbrev pub invariant-devices : goal.invariant-devices
invariant-devices l = record {
  stands : l.stands.items ≡ map stand_left (take l.at l.table);
  room : length l.table ≤ l.stands.spare + l.at;
  end : l.at-end ≡ length l.table;
  few : l.at-end ≤ 65536;
}
