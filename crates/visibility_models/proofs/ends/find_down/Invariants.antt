use Rattle.visibility_models.proofs.Prelude.{find, first_down_for, is_down_for, length, range_with_len, ◌-◌, ◌≡◌, ◌≤◌}
use Rattle.visibility_models.proofs.ends.find_down.Given as goal

-- no device so far is down for the run
abbrev pub invariant-devices : goal.invariant-devices
invariant-devices l = record {
  few : l.d-end ≤ 65536;
  size : l.d-end ≡ length l.s.table;
  left : first_down_for l.s.table l.s.line l.s.runs l.r.0 ≡ find (is_down_for l.s.table l.s.line l.s.runs l.r.0) (range_with_len l.d (l.d-end - l.d));
}
