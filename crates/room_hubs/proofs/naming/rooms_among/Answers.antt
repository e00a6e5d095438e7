use Rattle.room_hubs.proofs.Names.{rooms_next, names_few}
use Rattle.room_hubs.proofs.naming.rooms_among.Goals as goal
use Rattle.room_hubs.proofs.Prelude.{ap, arith, length, room_name, ◌<◌, ◌∙◌}

pub devices-preserved : goal.devices-preserved
devices-preserved c =
    let i = c.devices.device-index in
    let within : i < length c.args.devices.now = omega (arith, c.devices-test.true) in
    let named = c.room_name-room.ensures ∙ ap room_name c.as_str.ensures in
    let names_is = c.in_ok-number_of.ensures.names in (
      (λ j. record { names = names_is j; room_of = c.in_ok-push.ensures.ok j })
          ∙ rooms_next c.args.devices.now i c.device-item.result c.devices.names.items c.devices.room_of.items c.room_name-room.result.now c.in_ok-number_of.field-0 within c.device-item.is named c.in_ok-number_of.ensures.number c.devices.invariant.0,
      (let few = names_few c.devices.names.items c.room_name-room.result.now in
          omega (arith, ap length names_is, few, c.devices.invariant.1)),
    )
