use Rattle.window_devices.proofs.closings.stands_known.Given as goal
use Rattle.window_devices.proofs.Prelude.{all_known_left, length, ◌+◌, ◌≡◌, ◌≤◌}

-- the devices up to here stand so, and there is room for the others
abbrev pub invariant-devices : goal.invariant-devices
invariant-devices l = record {
  stands : l.stands.items ≡ all_known_left l.known.items l.table l.at;
  room : length l.table ≤ l.stands.spare + l.at;
  end : l.at-end ≡ length l.table;
  few : l.at-end ≤ 65536;
}
