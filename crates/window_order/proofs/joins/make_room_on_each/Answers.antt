use Rattle.window_order.proofs.Prelude.{All, Command, List, length, plain_run, subst, sym, ◌<◌, ◌≤◌}
use Rattle.window_order.proofs.MadeRoom.{HasRoomUpTo, homed_at, room_left, room_made, room_none, room_there, room_whole}
use Rattle.window_order.proofs.joins.make_room_on_each.Goals as goal
use Rattle.window_order.proofs.joins.make_room_on_each.Goals.{else-not-is_on_some, then-not-is_on_some+in_ok-make_room}

pub commands-init : goal.commands-init
commands-init c = room_none c.as_slice-commands.result.now c.args.table.now

pub make_room-requires : goal.make_room-requires
make_room-requires c =
    homed_at c.commands.at c.as_slice-commands.result.now c.args.table.now c.commands.table _ c.commands.invariant
    (subst (λ (cs : List Command). All (λ (x : Command). x.device.0 < length c.args.table.now) cs) (sym c.as_slice-commands.ensures) c.requires)
    c.commands-test.true

pub returns-in_err-make_room-clause-more : goal.returns-in_err-make_room-clause-more
returns-in_err-make_room-clause-more c = rw c.in_err-make_room.ensures.refused (room_left c.commands.at c.as_slice-commands.result.now c.args.table.now c.commands.table c.commands.invariant)

pub commands-preserved : goal.commands-preserved
commands-preserved c =
    let homed = subst (λ (cs : List Command). All (λ (x : Command). x.device.0 < length c.args.table.now) cs) (sym c.as_slice-commands.ensures) c.requires c.commands.at in
    elim c.if-not-is_on_some.branch [
      | then-not-is_on_some+in_ok-make_room w ↦ rw w.table-is
          (room_made c.commands.at c.as_slice-commands.result.now c.args.table.now c.commands.table w.make_room.new.self _ c.commands.invariant
          c.commands-test.true (homed _ c.commands-test.true) (sym w.if-not-is_on_some.ensures) w.in_ok-make_room.ensures.made)
      | else-not-is_on_some w ↦ rw w.table-is
          (room_there c.commands.at c.as_slice-commands.result.now c.args.table.now c.commands.table _ c.commands.invariant c.commands-test.true (sym w.if-not-is_on_some.ensures))
    ]

pub returns-clause-more : goal.returns-clause-more
returns-clause-more c = room_left c.commands.at c.as_slice-commands.result.now c.args.table.now c.commands.table c.commands.invariant

pub returns-clause-enough : goal.returns-clause-enough
returns-clause-enough c =
    room_whole c.commands.at (plain_run c.args.run.now) c.args.table.now c.commands.table
    (subst (λ (cs : List Command). HasRoomUpTo c.commands.at cs c.args.table.now c.commands.table) c.as_slice-commands.ensures c.commands.invariant)
    (subst (λ (cs : List Command). length cs ≤ c.commands.at) c.as_slice-commands.ensures c.commands-test.false)
