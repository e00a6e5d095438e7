use Rattle.device_order.proofs.Standing.{stands}
use Rattle.device_order.proofs.device_laws.standing_law.Goals as goal

pub returns : goal.returns
returns c = stands
