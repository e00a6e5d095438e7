use Rattle.hub_core.proofs.calls.HubChoices.{skip_goes, skip_waits, strict_said}
use Rattle.hub_core.proofs.open_windows.OpenWindow.decide_skip.Goals as goal
use Rattle.hub_core.proofs.Prelude.{ap, configuration_of, point_of, ◌∙◌}
use Rattle.visibility_models.specs.Models.{InOrder}

pub may_go-requires : goal.may_go-requires
may_go-requires g c = InOrder (configuration_of c.args.self.now) c.standing-standing.ensures c.requires.turn

pub returns-in-Some : goal.returns-in-Some
returns-in-Some g c = λ m. skip_waits (point_of (configuration_of c.args.self.now)) c.args.r.0 c.args.k c.in-Some.x
    (strict_said (configuration_of c.args.self.now) _ c.args.r.0 _ _ c.standing-standing.ensures (c.model.ensures ∙ ap (λ s. s.setting.mode.model) c.self.view_is) c.in-Some.ensures.wait)

pub returns-in-None : goal.returns-in-None
returns-in-None g c = λ m. skip_goes (point_of (configuration_of c.args.self.now)) c.args.r.0 c.args.k
    (strict_said (configuration_of c.args.self.now) _ c.args.r.0 _ _ c.standing-standing.ensures (c.model.ensures ∙ ap (λ s. s.setting.mode.model) c.self.view_is) c.in-None.ensures.wait)
