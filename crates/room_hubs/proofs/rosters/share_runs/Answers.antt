use Rattle.room_hubs.proofs.Prelude.{RosterRun, [], ap, arith, length, map, map-append, plain_run, sym, take, ◌++◌, ◌<◌, ◌∙◌, ◌∷◌, ◌≡◌}
use Rattle.room_hubs.proofs.Loops.{next_mapped}
use Rattle.room_hubs.proofs.rosters.share_runs.Goals as goal

pub runs-preserved : goal.runs-preserved
runs-preserved c =
    let i = c.runs.run-index in
    let within : i < length c.args.runs.now = omega (arith, c.runs-test.true) in
    let run : RosterRun = c.run-item.result in
    let shared : RosterRun = record { routine = c.in_ok-share.field-0; follows = run.follows } in
    let same : plain_run shared ≡ plain_run run = ap (λ r. record { commands = r.commands.items; follows = run.follows }) c.in_ok-share.ensures in
    ap (map plain_run) c.in_ok-push.ensures.ok ∙ map-append plain_run c.runs.shared.items (shared ∷ [])
    ∙ (λ j. c.runs.invariant j ++ same j ∷ [])
    ∙ ap (λ r. map plain_run (take c.runs.run-index c.args.runs.now) ++ plain_run r ∷ []) c.run-item.is
    ∙ sym (next_mapped plain_run c.args.runs.now i run within)
