use Rattle.hub_core.proofs.Prelude.{NeverRevokes, OpenHub, Some, ap, configuration_of, is_weak, next_device, subst, sym, ◌∙◌, ◌≡◌}
use Rattle.hub_core.proofs.open_windows.OpenWindow.may_lend.Goals as goal
use Rattle.hub_core.proofs.waiting.Lending.{may_ask, served_calm, told_calm, unserved_strong}

pub standing-requires : goal.standing-requires
standing-requires g c = record { strong = ap (λ s. is_weak s.setting.mode) (sym c.self.view_is) ∙ unserved_strong c.self.inside.history.setting.mode c.scheduler.result c.scheduler.ensures c.in-JustInTime.is }

pub lends-requires : goal.lends-requires
lends-requires g c = may_ask (configuration_of c.args.self.now) _ c.args.r.0 c.args.d.0 c.standing.ensures c.requires.turn

pub returns-in-Fcfs : goal.returns-in-Fcfs
returns-in-Fcfs g c = λ no. subst (λ (s : OpenHub g.row.D.Denot). next_device (configuration_of s) c.args.r.0 ≡ Some c.args.d.0 → NeverRevokes (configuration_of s) c.args.r.0 c.args.d.0) c.self.view_is
    (served_calm _ c.self.inside.rounds c.self.inside.opened _ c.args.r.0 c.args.d.0 c.self.invariant.shown.configuration (sym c.scheduler.ensures ∙ c.in-Fcfs.is)) c.requires.turn

pub returns-in-JustInTime : goal.returns-in-JustInTime
returns-in-JustInTime g c = told_calm (configuration_of c.args.self.now) _ c.args.r.0 c.args.d.0 c.lends.result c.lends.ensures.never c.standing.ensures c.requires.turn
