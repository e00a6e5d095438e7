use Rattle.room_hubs.proofs.Prelude.{map, numbers_of_devices, numbers_of_runs, own_run, plain_run, run_with, take, ◌≡◌}
use Rattle.room_hubs.proofs.splits.own_roster.Given as goal

abbrev pub invariant-mine : goal.invariant-mine
invariant-mine l =
    map plain_run l.own.items
    ≡ map (λ run. own_run (numbers_of_devices l.devices) (numbers_of_runs l.mine) (run_with (map plain_run l.runs) run.0)) (take l.number-index l.mine)
