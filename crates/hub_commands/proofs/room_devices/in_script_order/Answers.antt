use Rattle.hub_commands.proofs.RoomRanks.{never_empty, none_left, ordering_begins, ordering_takes}
use Rattle.hub_commands.proofs.room_devices.in_script_order.Goals as goal
use Rattle.hub_commands.proofs.Prelude.{[], arith, rules, ◌++◌, ◌+◌, ◌-◌, ◌∷◌, ◌≡◌}

pub devices-init : goal.devices-init
devices-init g c =
    ordering_begins c.args.room_of.now c.args.homes.items c.devices_of-of_rooms.result.items c.args.room.backward c.requires.devices c.devices_of-of_rooms.ensures c.requires.room.none_backward c.requires.room.for_backward

pub devices-preserved-in-Some : goal.devices-preserved-in-Some
devices-preserved-in-Some g c =
    let some = c.devices-test.true in
    let more : c.push.new.self.items ≡ c.devices.backward.items ++ c.in-Some.device ∷ [] = search rules in
    let left_is : c.devices.left ≡ (c.devices.left - 1) + 1 = omega (arith, some) in
    ordering_takes c.args.room_of.now c.args.homes.items c.devices.of_rooms.items c.devices.backward c.devices.left (c.devices.left - 1) c.index_mut.result.now
    c.requires.rooms c.requires.devices c.devices.invariant left_is c.index_mut.ensures.value c.pop.new.self c.push.new.self c.in-Some.device c.in-Some.ensures.last more c.push.ensures.used

pub devices-preserved : goal.devices-preserved
devices-preserved g c =
    let some = c.devices-test.true in
    let left_is : c.devices.left ≡ (c.devices.left - 1) + 1 = omega (arith, some) in
    absurd (none_left _ (never_empty c.args.room_of.now c.args.homes.items c.devices.of_rooms.items c.devices.backward c.devices.left (c.devices.left - 1) c.index_mut.result.now
    c.requires.rooms c.requires.devices c.devices.invariant left_is c.index_mut.ensures.value) c.in_default.ensures.found.1)
