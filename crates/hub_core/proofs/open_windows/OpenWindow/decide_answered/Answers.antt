use Rattle.hub_core.proofs.calls.HubChoices.{answered_commits, answered_fails, down_said}
use Rattle.hub_core.proofs.open_windows.OpenWindow.decide_answered.Goals as goal
use Rattle.hub_core.proofs.Prelude.{ap, configuration_of, point_of, ◌∙◌}
use Rattle.visibility_models.specs.Models.{InOrder}

pub down_at_end-requires : goal.down_at_end-requires
down_at_end-requires g c = InOrder (configuration_of c.args.self.now) c.standing-standing.ensures c.requires.turn

pub returns-in-Some : goal.returns-in-Some
returns-in-Some g c = λ m. answered_fails (point_of (configuration_of c.args.self.now)) c.args.r.0 c.in-Some.d
    (down_said (configuration_of c.args.self.now) _ c.args.r.0 _ _ c.standing-standing.ensures (c.model.ensures ∙ ap (λ s. s.setting.mode.model) c.self.view_is) c.in-Some.ensures.down)

pub returns-in-None : goal.returns-in-None
returns-in-None g c = λ m. answered_commits (point_of (configuration_of c.args.self.now)) c.args.r.0
    (down_said (configuration_of c.args.self.now) _ c.args.r.0 _ _ c.standing-standing.ensures (c.model.ensures ∙ ap (λ s. s.setting.mode.model) c.self.view_is) c.in-None.ensures.down)
