use Rattle.hub_threads.proofs.Prelude.{progress_at, ℕ, ◌<◌, ◌≡◌}
use Rattle.hub_threads.proofs.windows.none_is_left.Given as goal

abbrev pub invariant-devices : goal.invariant-devices
invariant-devices g l = (d : ℕ) → d < l.d → (progress_at l.hub.devices d).probes_left ≡ 0
