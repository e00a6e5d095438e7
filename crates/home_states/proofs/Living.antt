-- What a live home is never in.
use Rattle.home_states.proofs.Prelude.{FitsScript, IsLive, LiveState, Moving, subst, ◌≡◌}

-- no live home is left between the two
pub never_moving : (s : LiveState) → IsLive s → s.phase ≡ Moving → ⊥
never_moving s live is = subst (λ p. FitsScript s.script s.mode p) is live.fits
