use Rattle.room_hubs.proofs.joins.push_items.Given as goal
use Rattle.room_hubs.proofs.Prelude.{home_item, map, plain_room, take, ◌++◌, ◌≡◌}

abbrev pub invariant-items : goal.invariant-items
invariant-items l = l.order.items ≡ l.initial.order.items ++ map (home_item (plain_room l.roster)) (take l.item-index l.items)
