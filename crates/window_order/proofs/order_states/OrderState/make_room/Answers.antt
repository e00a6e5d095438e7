use Rattle.window_order.proofs.MadeRoom.{room_as_it_was}
use Rattle.window_order.proofs.order_states.OrderState.make_room.Goals as goal

pub returns-then-len-items-clause-table : goal.returns-then-len-items-clause-table
returns-then-len-items-clause-table c = room_as_it_was c.args.self.now.table

pub returns-in_err-reserve-clause-table : goal.returns-in_err-reserve-clause-table
returns-in_err-reserve-clause-table c = room_as_it_was c.args.self.now.table
