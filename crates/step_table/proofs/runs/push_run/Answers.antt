use Rattle.step_table.proofs.Prelude.{IfSome, Opened, configuration_of, opened, subst, ◌≡◌}
use Rattle.step_table.proofs.FreshWindows.{rounds_are}
use Rattle.step_table.proofs.runs.push_run.Goals as goal

pub run_window-requires-clause-rounds : goal.run_window-requires-clause-rounds
run_window-requires-clause-rounds g c lifetimes live =
    rounds_are c.in-Some.field-0.hub c.in-Some.field-0.rounds
    (subst (λ o. IfSome o (λ (first : Opened). configuration_of first.hub ≡ opened first.hub.setting first.hub.rounds)) c.in-Some.is c.in_ok-hub.ensures.fresh)
    (subst (λ o. IfSome o (λ (first : Opened). first.hub.rounds ≡ first.rounds)) c.in-Some.is c.in_ok-hub.ensures.rounds)
