use Rattle.order_checker.proofs.home_lines.read_each_stand.Given as goal
use Rattle.order_checker.proofs.Prelude.{[], drop, length, next_stand, texts, walk, ◌≡◌}

-- where the devices so far stand
abbrev pub invariant-devices : goal.invariant-devices
invariant-devices l =
    record {
      walk : walk (next_stand (texts l.words)) [] l.devices ≡ walk (next_stand (texts l.words)) l.stands.items (drop l.i l.devices);
      count : length l.stands.items ≡ l.i;
    }
