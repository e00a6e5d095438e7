use Rattle.routine_reader.proofs.Prelude.{All, List, RunText, ap, length, map, run_of_text, runs_of, script_runs, subst, sym, ◌<◌, ◌∙◌, ◌≡◌}
use Rattle.command_rules.specs.declared.rosters.Roster.{Roster}
use Rattle.routine_reader.proofs.RosterLemmas.{routines-there, runs-there, window-there}
use Rattle.routine_reader.proofs.rosters.roster.Goals as goal
use Rattle.std.proofs.lemmas.Result.{IfOk-weaker}

pub roster_of-requires : goal.roster_of-requires
roster_of-requires c =
    let script = c.args.script.now in
    let window = c.index-as_slice-window.result in
    let at = window-there script c.args.window c.as_slice.result.now window c.requires.window c.as_slice.ensures c.index-as_slice-window.is in
    let there = routines-there script c.args.window window c.requires.sound at in
    subst (λ (runs : List RunText). All (λ run. run.routine < length script.routines.items) runs) (sym c.as_slice-2.ensures) there

pub returns : goal.returns
returns c =
    let script = c.args.script.now in
    let window = c.index-as_slice-window.result in
    let at = window-there script c.args.window c.as_slice.result.now window c.requires.window c.as_slice.ensures c.index-as_slice-window.is in
    let same : map (run_of_text script) c.as_slice-2.result.now ≡ script_runs script c.args.window =
    ap (map (run_of_text script)) c.as_slice-2.ensures ∙ runs-there script c.args.window window at in
    IfOk-weaker c.roster_of.result
    (λ (roster : Roster). runs_of roster ≡ map (run_of_text script) c.as_slice-2.result.now)
    (λ (roster : Roster). runs_of roster ≡ script_runs script c.args.window)
    (λ roster e. e ∙ same) c.roster_of.ensures
