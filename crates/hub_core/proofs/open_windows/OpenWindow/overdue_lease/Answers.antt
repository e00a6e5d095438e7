use Rattle.hub_core.proofs.Prelude.{Asking, IsAsking, None, OpenHub, configuration_of, false, is_weak, point_of, subst, sym, ◌∙◌, ◌≡◌}
use Rattle.hub_core.proofs.open_windows.OpenWindow.overdue_lease.Goals as goal
use Rattle.hub_core.proofs.waiting.Lending.{served_leases}
use Rattle.lock_leasing.specs.Leases.{overdue_lease}

pub overdue-requires : goal.overdue-requires
overdue-requires g c = Asking (configuration_of c.args.self.now) c.standing.ensures c.requires.turn

pub returns-in-Fcfs : goal.returns-in-Fcfs
returns-in-Fcfs g c = subst (λ (s : OpenHub g.row.D.Denot). is_weak s.setting.mode ≡ false → IsAsking (configuration_of s) c.args.r.0 c.args.d.0 → None ≡ overdue_lease (point_of (configuration_of s)) c.args.r.0 c.args.d.0 c.args.moment) c.self.view_is
    (served_leases _ c.self.inside.rounds c.self.inside.opened _ c.args.r.0 c.args.d.0 c.args.moment c.self.invariant.shown.configuration (sym c.scheduler.ensures ∙ c.in-Fcfs.is)) c.requires.strong c.requires.turn

pub returns-in-JustInTime : goal.returns-in-JustInTime
returns-in-JustInTime g c = c.overdue.ensures (configuration_of c.args.self.now) c.standing.ensures c.requires.turn
