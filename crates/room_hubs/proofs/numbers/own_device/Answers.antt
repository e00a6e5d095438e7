use Rattle.room_hubs.proofs.Loops.{seen_none, seen_some}
use Rattle.room_hubs.proofs.numbers.own_device.Goals as goal
use Rattle.room_hubs.proofs.Prelude.{ap, device_no, sym, ◌==◌}

pub returns-in-Some : goal.returns-in-Some
returns-in-Some c =
    ap device_no (sym (seen_some (λ d. d.0) (λ n. n == c.args.device.0) c.args.devices.now c.in-Some.place c.in-Some.ensures.place))

pub returns-in-None : goal.returns-in-None
returns-in-None c =
    ap device_no (sym (seen_none (λ d. d.0) (λ n. n == c.args.device.0) c.args.devices.now c.in-None.ensures.place))
