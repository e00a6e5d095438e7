use Rattle.device_order.proofs.Changes.{keeps}
use Rattle.device_order.proofs.device_laws.change_law.Goals as goal

pub returns : goal.returns
returns c = keeps
