use Rattle.device_order.proofs.window_laws.read_is_covered.Goals as goal
use Rattle.device_order.proofs.WindowClaims.{read_covered}

pub returns : goal.returns
returns c = read_covered
