use Rattle.hub_core.proofs.Prelude.{Failed, accesses_at}
use Rattle.hub_core.proofs.failures.note_fall.Goals as goal
use Rattle.hub_core.proofs.kept.SealedOrders.{turned_sealed}

pub seal-requires : goal.seal-requires
seal-requires c =
    turned_sealed c.book.result.now.items c.args.first (accesses_at c.args.order.now.table c.args.d.0) (Failed c.args.d c.args.number) c.args.order.now.line c.device_failed-lost.new.line
    c.requires.may.unsealed c.device_failed-lost.ensures.marks c.device_failed-lost.ensures.sealed c.requires.may.sealed
