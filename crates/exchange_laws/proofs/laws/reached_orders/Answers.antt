use Rattle.exchange_laws.proofs.Reached.{reached_rearranged, rearranged_reached}
use Rattle.exchange_laws.proofs.laws.reached_orders.Goals as goal

pub returns-clause-reached : goal.returns-clause-reached
returns-clause-reached c = rearranged_reached

pub returns-clause-only : goal.returns-clause-only
returns-clause-only c = reached_rearranged
