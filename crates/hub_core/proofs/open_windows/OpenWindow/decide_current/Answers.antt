use Rattle.hub_core.proofs.calls.HubChoices.{command_behind, command_dirty, command_strict, command_unbarred, strict_said, touch_said}
use Rattle.hub_core.proofs.open_windows.OpenWindow.decide_current.Goals as goal
use Rattle.hub_core.proofs.Prelude.{Touching, ap, configuration_of, point_of, ◌∙◌}
use Rattle.visibility_models.specs.Models.{InOrder}

pub test_touch-requires : goal.test_touch-requires
test_touch-requires g c = Touching (configuration_of c.args.self.now) c.standing-standing.ensures c.requires.turn

pub returns-in-Behind : goal.returns-in-Behind
returns-in-Behind g c =
    λ m. command_behind (point_of (configuration_of c.args.self.now)) c.args.r.0 c.args.k c.args.command c.in-Behind.d c.in-Behind.x
    (touch_said (configuration_of c.args.self.now) _ c.args.r.0 c.args.k c.args.command _ c.standing-standing.ensures c.requires.turn c.requires.command
    c.in-Behind.ensures)

pub returns-in-Dirty : goal.returns-in-Dirty
returns-in-Dirty g c =
    λ m. command_dirty (point_of (configuration_of c.args.self.now)) c.args.r.0 c.args.k c.args.command c.in-Dirty.d c.in-Dirty.x (touch_said (configuration_of c.args.self.now) _
    c.args.r.0 c.args.k c.args.command _ c.standing-standing.ensures c.requires.turn c.requires.command c.in-Dirty.ensures)

pub may_go-requires : goal.may_go-requires
may_go-requires g c = InOrder (configuration_of c.args.self.now) c.standing-standing.ensures (record { live = c.requires.turn.live; sound = c.requires.turn.sound })

pub returns-in-Some : goal.returns-in-Some
returns-in-Some g c =
    λ m. command_strict (point_of (configuration_of c.args.self.now)) c.args.r.0 c.args.k c.args.command c.in-Some.x (touch_said (configuration_of c.args.self.now) _ c.args.r.0
    c.args.k c.args.command _ c.standing-standing.ensures c.requires.turn c.requires.command c.in-Free.ensures)
    (strict_said (configuration_of c.args.self.now) _ c.args.r.0 _ _ c.standing-standing.ensures (c.model.ensures ∙ ap (λ s. s.setting.mode.model) c.self.view_is) c.in-Some.ensures.wait)

pub returns : goal.returns
returns g c =
    λ m. command_unbarred (point_of (configuration_of c.args.self.now)) c.args.r.0 c.args.k c.args.command _ (touch_said (configuration_of c.args.self.now) _ c.args.r.0 c.args.k
    c.args.command _ c.standing-standing.ensures c.requires.turn c.requires.command c.in-Free.ensures)
    (strict_said (configuration_of c.args.self.now) _ c.args.r.0 _ _ c.standing-standing.ensures (c.model.ensures ∙ ap (λ s. s.setting.mode.model) c.self.view_is) c.in_default.ensures.wait) (c.decide_unbarred.ensures m)
