use Rattle.room_hubs.proofs.Loops.{seen_none, seen_some}
use Rattle.room_hubs.proofs.numbers.place_in.Goals as goal
use Rattle.room_hubs.proofs.Prelude.{sym, ◌==◌}

pub returns-in-Some : goal.returns-in-Some
returns-in-Some c = sym (seen_some (λ d. d.0) (λ n. n == c.args.device.0) c.args.devices.now c.in-Some.place c.in-Some.ensures.place)

pub returns-in-None : goal.returns-in-None
returns-in-None c = sym (seen_none (λ d. d.0) (λ n. n == c.args.device.0) c.args.devices.now c.in-None.ensures.place)
