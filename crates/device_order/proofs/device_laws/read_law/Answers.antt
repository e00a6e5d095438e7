use Rattle.device_order.proofs.Claims.{reads}
use Rattle.device_order.proofs.device_laws.read_law.Goals as goal

pub returns : goal.returns
returns c = reads
