use Rattle.live_scripts.proofs.GrowthSound.{run_or_same}
use Rattle.live_scripts.proofs.Refusing.{few_and_earlier, free_in_last, known_routine, room_in_last}
use Rattle.live_scripts.proofs.scripts.LiveScript.add_run.Goals as goal
use Rattle.live_scripts.proofs.Prelude.{HasRoomForRun, None, Script, [], first_against_run, rules, subst, sym, ◌++◌, ◌∷◌, ◌≡◌}

pub invariant_of-self : goal.invariant_of-self
invariant_of-self c =
    let free : first_against_run c.self.inside.script c.args.routine c.args.follows ≡ None = search rules in
    let before : c.self.inside.script.windows.items ≡ c.pop.new.self.items ++ c.in-Some.window ∷ [] = search rules in
    let after : c.push-kept.new.self.items ≡ c.pop.new.self.items ++ c.append_run-added.new.window ∷ [] = search rules in
    run_or_same c.self.inside.script c.push-kept.new.self c.pop.new.self c.in-Some.window c.append_run-added.new.window c.args.routine c.args.follows
    c.append_run-added.result c.self.invariant (known_routine c.self.inside.script c.args.routine c.args.follows free) before after c.append_run-added.ensures.appended
    (few_and_earlier c.in-Some.window c.args.follows (free_in_last c.self.inside.script c.args.routine c.args.follows c.pop.new.self.items c.in-Some.window free before))
    c.append_run-added.ensures.rest c.append_run-added.ensures.same

pub returns-clause-roomy : goal.returns-clause-roomy
returns-clause-roomy c free room =
    let before : c.self.inside.script.windows.items ≡ c.pop.new.self.items ++ c.in-Some.window ∷ [] = search rules in
    c.append_run-added.ensures.roomy
    (room_in_last c.self.inside.script c.pop.new.self.items c.in-Some.window (subst (λ (s : Script). HasRoomForRun s) (sym c.self.view_is) room) before)
