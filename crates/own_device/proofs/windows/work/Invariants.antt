use Rattle.own_device.proofs.windows.work.Given as goal
use Rattle.std.proofs.Common.{◌≡◌}

-- the hub is in the same window
abbrev pub invariant-runs : goal.invariant-runs
invariant-runs g l = l.hub.setting ≡ l.fn.hub.setting

abbrev pub invariant-devices : goal.invariant-devices
invariant-devices g l = l.hub.setting ≡ l.fn.hub.setting

abbrev pub invariant-turns : goal.invariant-turns
invariant-turns g l = l.hub.setting ≡ l.fn.hub.setting
