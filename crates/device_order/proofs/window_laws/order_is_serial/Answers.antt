use Rattle.device_order.proofs.window_laws.order_is_serial.Goals as goal
use Rattle.device_order.proofs.WindowClaims.{order_serial}

pub returns : goal.returns
returns c = order_serial
