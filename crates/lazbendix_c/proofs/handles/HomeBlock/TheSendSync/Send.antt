use Rattle.lazbendix_c.proofs.Crossing.{block_send}
use Rattle.lazbendix_c.specs.contracts.handles.HomeBlock.{the_row}
use Rattle.home_states.proofs.homes.LiveHome.TheSendSync.{the_send as home}
use Rattle.lazbendix_c.proofs.Prelude.{IsSend}

pub send : IsSend the_row
send = block_send home
