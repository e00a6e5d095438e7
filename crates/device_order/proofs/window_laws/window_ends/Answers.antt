use Rattle.device_order.proofs.window_laws.window_ends.Goals as goal
use Rattle.device_order.proofs.WindowClaims.{window_ends_so}

pub returns : goal.returns
returns c = window_ends_so
