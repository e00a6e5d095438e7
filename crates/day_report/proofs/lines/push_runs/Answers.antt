use Rattle.day_report.proofs.Growing.{one_numbered_piece_more}
use Rattle.day_report.proofs.RunParts.{run_line-of_part}
use Rattle.day_report.proofs.lines.push_runs.Goals as goal
use Rattle.day_report.proofs.Prelude.{None, ap, arith, get_or, get_or_default, line_of_run, string_bytes, ◌++◌, ◌+◌, ◌∙◌}

pub runs-preserved : goal.runs-preserved
runs-preserved c =
    let script = c.args.script.now in
    let window = c.args.window.now in
    let history = c.args.history.now in
    let runs = c.as_slice-all.result.now in
    let i = c.runs.i in
    let run = get_or runs i (record { routine = 0; follows = None }) in
    c.in_ok-push_run.ensures
    ∙ ap (λ line. string_bytes c.runs.text ++ line) (run_line-of_part script window history c.in_ok-parts.parts.items i run.routine c.index.result.now c.as_slice.result.now (omega (arith, c.runs-test.true, c.in_ok-parts.ensures.runs)) c.in_ok-parts.ensures.apart c.index.ensures c.as_slice.ensures)
    ∙ ap (λ text. text ++ line_of_run script window history (i + 1) run.routine) c.runs.invariant
    ∙ one_numbered_piece_more (λ (r, run). line_of_run script window history r run.routine)
    (string_bytes c.args.text.now) 1 runs i (i + 1) run c.runs-test.true (omega arith) (get_or_default runs i (record { routine = 0; follows = None }) run c.runs-test.true)
