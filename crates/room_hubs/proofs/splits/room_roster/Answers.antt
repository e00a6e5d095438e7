use Rattle.room_hubs.proofs.Sizes.{room_devices_few, room_runs_few, room_runs_there}
use Rattle.room_hubs.proofs.splits.room_roster.Goals as goal
use Rattle.room_hubs.proofs.Prelude.{All, ap, arith, length, subst, sym, ◌≤◌}

pub own_roster-requires-clause-devices : goal.own_roster-requires-clause-devices
own_roster-requires-clause-devices c =
    let few = room_devices_few c.args.room_of.now c.args.room c.in_ok-devices.devices.items c.in_ok-devices.ensures in
    omega (arith, few, ap length c.as_slice.ensures, c.requires.devices)

pub own_roster-requires-clause-few : goal.own_roster-requires-clause-few
own_roster-requires-clause-few c =
    let few = room_runs_few c.args.room_of.now c.args.runs.now c.args.room c.in_ok-mine.mine.items c.in_ok-mine.ensures in
    omega (arith, few, ap length c.as_slice-2.ensures, c.requires.runs)

pub own_roster-requires-clause-there : goal.own_roster-requires-clause-there
own_roster-requires-clause-there c =
    subst (λ l. All (λ run. (1 ≤ run.0) × (run.0 ≤ length c.args.runs.now)) l) (sym c.as_slice-2.ensures)
    (room_runs_there c.args.room_of.now c.args.runs.now c.args.room c.in_ok-mine.mine.items c.in_ok-mine.ensures)
