use Rattle.room_hubs.proofs.Prelude.{commands_of, filter, length, map, numbers_of_runs, plain_run, range_with_len, run_room, take, ◌==◌, ◌≡◌}
use Rattle.room_hubs.proofs.splits.runs_in.Given as goal

abbrev pub invariant-runs : goal.invariant-runs
invariant-runs l =
    numbers_of_runs l.runs.items ≡ filter (λ r. run_room l.room_of (commands_of (map plain_run l.roster) r) == l.room) (take l.place (range_with_len 1 (length l.roster)))
