use Rattle.room_hubs.proofs.Prelude.{List, Run, RunNo, [], ap, arith, get_or, length, map, map-append, numbers_of_devices, numbers_of_runs, own_run, plain_run, run_no, run_with, sym, ◌++◌, ◌<◌, ◌∙◌, ◌∷◌, ◌≡◌}
use Rattle.room_hubs.proofs.Loops.{all_mapped, map_map, next_mapped}
use Rattle.room_hubs.proofs.Sizes.{run_there}
use Rattle.room_hubs.proofs.splits.own_roster.Goals as goal

pub mine-preserved : goal.mine-preserved
mine-preserved c =
    let runs : List Run = map plain_run c.args.runs.now in
    let owned : Run → Run = own_run (numbers_of_devices c.args.devices.now) (numbers_of_runs c.args.mine.now) in
    let i = c.mine.number-index in
    let within : i < length c.args.mine.now = omega (arith, c.mine-test.true) in
    let number = get_or c.args.mine.now i (run_no 0) in
    let there = c.requires.there i (run_no 0) within in
    let run = c.index-runs-number.result in
    let run_is : plain_run run ≡ run_with runs number.0 = ap plain_run c.index-runs-number.is ∙ sym (run_there c.args.runs.now number.0 run there.0 there.1) in
    let made = c.in_ok-own_run.field-0 in
    let made_is : plain_run made ≡ owned (run_with runs number.0) = c.in_ok-own_run.ensures ∙ ap owned run_is in
    ap (map plain_run) c.in_ok-push.ensures.ok ∙ map-append plain_run c.mine.own.items (made ∷ [])
    ∙ (λ j. c.mine.invariant j ++ made_is j ∷ [])
    ∙ sym (next_mapped (λ (n : RunNo). owned (run_with runs n.0)) c.args.mine.now i (run_no 0) within)

pub returns : goal.returns
returns c =
    let runs : List Run = map plain_run c.args.runs.now in
    let owned : Run → Run = own_run (numbers_of_devices c.args.devices.now) (numbers_of_runs c.args.mine.now) in
    c.mine.invariant ∙ all_mapped (λ (n : RunNo). owned (run_with runs n.0)) c.args.mine.now c.mine.number-index (omega (arith, c.mine-test.false))
    ∙ sym (map_map (λ r. owned (run_with runs r)) (λ (n : RunNo). n.0) c.args.mine.now)
