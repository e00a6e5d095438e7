use Rattle.step_table.proofs.Prelude.{IfSome, Opened, configuration_of, opened, subst, ◌≡◌}
use Rattle.step_table.proofs.FreshWindows.{rounds_left}
use Rattle.step_table.proofs.plays.push_replay.Goals as goal

pub replay_window-requires-clause-rounds : goal.replay_window-requires-clause-rounds
replay_window-requires-clause-rounds c =
    rounds_left c.in-Some-2.field-0.hub c.in-Some-2.field-0.rounds
    (subst (λ o. IfSome o (λ (first : Opened). configuration_of first.hub ≡ opened first.hub.setting first.hub.rounds)) c.in-Some-2.is c.in_ok-hub.ensures.fresh)
    (subst (λ o. IfSome o (λ (first : Opened). first.hub.rounds ≡ first.rounds)) c.in-Some-2.is c.in_ok-hub.ensures.rounds)
