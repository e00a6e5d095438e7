use Rattle.home_journal.proofs.StateBytes.{bytes_more, small_more}
use Rattle.home_journal.proofs.states.fill_slot.Goals as goal
use Rattle.home_journal.proofs.Prelude.{arith, length, rules, to_le_bytes, w16, w32, ◌++◌, ◌<◌}

pub devices-preserved : goal.devices-preserved
devices-preserved c =
    let i = c.devices.invariant in
    let home = c.args.home.now in
    let within : c.devices.stand-index < length home = search rules in
    let front = to_le_bytes w32 c.args.number ++ to_le_bytes w16 (length home) in (
      bytes_more front c.devices.slot.items c.put_stand.new.bytes.items home c.devices.stand-index _ within i.0 c.put_stand.ensures.items,
      omega (arith, i.1, c.put_stand.ensures.size),
      omega (arith, i.2, c.put_stand.ensures.room),
      small_more home c.devices.stand-index _ within c.put_stand.ensures.small i.3,
    )
