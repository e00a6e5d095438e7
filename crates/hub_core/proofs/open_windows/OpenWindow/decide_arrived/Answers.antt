use Rattle.hub_core.proofs.Prelude.{ap, is_run, ◌∙◌}
use Rattle.hub_core.proofs.calls.Placings.{leader_runs}
use Rattle.hub_core.proofs.open_windows.OpenWindow.decide_arrived.Goals as goal

pub awaited_leader-requires-clause-leader : goal.awaited_leader-requires-clause-leader
awaited_leader-requires-clause-leader g c = leader_runs c.self.inside.history.setting _ _ c.args.r.0 c.self.invariant.shown.configuration.opens (ap (λ s. is_run s.setting.runs c.args.r.0) c.self.view_is ∙ c.requires.run)
