use Rattle.routine_reader.proofs.Prelude.{List, None, Run, RunText, [], ap, arith, get_or, map, map-append, plain_run, rules, run_of_text, ◌++◌, ◌∙◌, ◌∷◌, ◌≡◌}
use Rattle.routine_reader.proofs.RosterLemmas.{runs-all, runs-more}
use Rattle.routine_reader.proofs.rosters.roster_of.Goals as goal

pub texts-preserved : goal.texts-preserved
texts-preserved c =
    let script = c.args.script.now in
    let made = c.in_ok-roster_run.field-0 in
    let no_run : RunText = record { routine = 0; follows = None } in
    let text = get_or c.args.texts.now c.texts.text-index no_run in
    let same : plain_run made ≡ run_of_text script text = search rules in
    ap (map plain_run) c.in_ok-push.ensures.ok ∙ map-append plain_run c.texts.runs.items (made ∷ [])
    ∙ ap (λ (run : Run). map plain_run c.texts.runs.items ++ run ∷ []) same
    ∙ ap (λ (runs : List Run). runs ++ run_of_text script text ∷ []) c.texts.invariant
    ∙ runs-more script c.args.texts.now c.texts.text-index no_run (omega arith)

pub returns : goal.returns
returns c = c.texts.invariant ∙ runs-all c.args.script.now c.args.texts.now c.texts.text-index c.texts-test.false
