use Rattle.device_order.proofs.window_laws.window_starts.Goals as goal
use Rattle.device_order.proofs.WindowRuns.{window_begins}

pub returns : goal.returns
returns c = window_begins
