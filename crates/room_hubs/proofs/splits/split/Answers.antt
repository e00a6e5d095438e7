use Rattle.room_hubs.proofs.Prelude.{PlainRooms, ap, arith, length, length-map, most_devices, plain_run, subst, sym, ◌≤◌}
use Rattle.room_hubs.proofs.Sizes.{rooms_few, runs_few}
use Rattle.room_hubs.proofs.splits.split.Goals as goal

pub split_runs-rosters-requires-clause-names : goal.split_runs-rosters-requires-clause-names
split_runs-rosters-requires-clause-names c =
    subst (λ (r : PlainRooms). length r.names ≤ most_devices) (sym c.requires.rooms) (rooms_few c.args.script.now c.requires.sound).0

pub split_runs-rosters-requires-clause-devices : goal.split_runs-rosters-requires-clause-devices
split_runs-rosters-requires-clause-devices c =
    subst (λ (r : PlainRooms). length r.room_of ≤ most_devices) (sym c.requires.rooms) (rooms_few c.args.script.now c.requires.sound).1

pub split_runs-rosters-requires-clause-runs : goal.split_runs-rosters-requires-clause-runs
split_runs-rosters-requires-clause-runs c =
    let runs = c.in-Ok.roster.runs.items in
    omega (arith, ap length c.as_slice.ensures, length-map runs plain_run, ap length c.in-Ok.ensures, runs_few c.args.script.now c.args.window c.requires.sound c.requires.window)
