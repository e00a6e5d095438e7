use Rattle.hub_core.proofs.Prelude.{Back, None, accesses_at}
use Rattle.hub_core.proofs.failures.note_rise.Goals as goal
use Rattle.hub_core.proofs.kept.SealedOrders.{turned_sealed}

pub seal-requires : goal.seal-requires
seal-requires c =
    turned_sealed c.book.result.now.items None (accesses_at c.args.order.now.table c.args.d.0) (Back c.args.d c.args.number) c.args.order.now.line c.device_recovered.new.line
    c.requires.may.unsealed c.device_recovered.ensures.marks c.device_recovered.ensures.sealed c.requires.may.sealed
