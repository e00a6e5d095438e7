use Rattle.home_states.proofs.Living.{never_moving}
use Rattle.home_states.proofs.Numbering.{window_of}
use Rattle.home_states.proofs.homes.LiveHome.lent.Goals as goal
use Rattle.home_states.proofs.Prelude.{the_view}

pub unreachable-requires : goal.unreachable-requires
unreachable-requires c = never_moving _ c.self.invariant.live c.in-Moving.is

pub lent_in-requires : goal.lent_in-requires
lent_in-requires c = record { low = window_of (the_view c.self.inside) c.in-InWindow.field-0 c.in-InWindow.table c.self.invariant.live c.in-InWindow.is }
