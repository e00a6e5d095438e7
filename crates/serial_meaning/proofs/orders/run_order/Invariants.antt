use Rattle.serial_meaning.proofs.Prelude.{drop, fold, length, runs_of, serial_execution, serial_run_of, serve, ◌≡◌}
use Rattle.serial_meaning.proofs.orders.run_order.Given as goal

-- what is still to be done gives the whole
abbrev pub invariant-items : goal.invariant-items
invariant-items l =
    (length l.order.home.items ≡ length l.initial.world.devices.items)
    × (serial_execution (runs_of l.roster) l.kinds.items l.initial.world.devices.items l.items.items
    ≡ fold (serve (runs_of l.roster) l.kinds.items) (serial_run_of l.order) (drop l.item-index l.items.items))
    × (l.world ≡ l.initial.world)
