use Rattle.order_checker.proofs.home_lines.all_stand_so.Given as goal
use Rattle.order_checker.proofs.Prelude.{drop, next_device_told, walk, ◌≡◌}

-- the devices so far stand as they are told
abbrev pub invariant-stands : goal.invariant-stands
invariant-stands l = walk (next_device_told l.told) 0 l.home ≡ walk (next_device_told l.told) l.i (drop l.i l.home)
