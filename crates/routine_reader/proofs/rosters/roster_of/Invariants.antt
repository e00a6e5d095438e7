use Rattle.routine_reader.proofs.Prelude.{map, plain_run, run_of_text, take, ◌≡◌}
use Rattle.routine_reader.proofs.rosters.roster_of.Given as goal

abbrev pub invariant-texts : goal.invariant-texts
invariant-texts l = map plain_run l.runs.items ≡ map (run_of_text l.script) (take l.text-index l.texts)
