use Rattle.room_hubs.proofs.JoinedOrders.{is_merge, joined_is, own_is}
use Rattle.room_hubs.proofs.laws.joined_keeps.Goals as goal

pub returns-clause-order : goal.returns-clause-order
returns-clause-order c = joined_is

pub returns-clause-own : goal.returns-clause-own
returns-clause-own c = own_is

pub returns-clause-merge : goal.returns-clause-merge
returns-clause-merge c = is_merge
