use Rattle.device_order.proofs.Swaps.{exchanged}
use Rattle.device_order.proofs.exchange.neighbours_exchange.Goals as goal

pub returns : goal.returns
returns c = exchanged
