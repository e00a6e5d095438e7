use Rattle.home_states.proofs.Living.{never_moving}
use Rattle.home_states.proofs.homes.LiveHome.sealed.Goals as goal

pub unreachable-requires : goal.unreachable-requires
unreachable-requires c = never_moving _ c.self.invariant.live c.in-Moving.is
