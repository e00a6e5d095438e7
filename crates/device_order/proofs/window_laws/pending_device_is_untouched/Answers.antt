use Rattle.device_order.proofs.window_laws.pending_device_is_untouched.Goals as goal
use Rattle.device_order.proofs.WindowClaims.{untouched_after}

pub returns : goal.returns
returns c = untouched_after
