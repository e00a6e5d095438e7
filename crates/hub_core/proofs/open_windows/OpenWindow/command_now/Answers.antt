use Rattle.hub_core.proofs.Prelude.{ap, false, is_run, is_some, refl, sym, ◌∙◌}
use Rattle.hub_core.proofs.calls.HubChanges.{strong_seen}
use Rattle.hub_core.proofs.calls.HubChoices.{hub_at_command, hub_commands, placed_before}
use Rattle.hub_core.proofs.open_windows.OpenWindow.command_now.Goals as goal

pub grip_of-requires : goal.grip_of-requires
grip_of-requires g c = sym (c.if-not-has_run.ensures ∙ ap (λ s. is_run s.setting.runs c.args.r.0) c.self.view_is)

pub returns-then-holds-clause-strong : goal.returns-then-holds-clause-strong
returns-then-holds-clause-strong g c = strong_seen c.self.inside c.args.self.now false c.self.view_is (sym c.if-is_weak.ensures)

pub returns-then-holds-clause-turn : goal.returns-then-holds-clause-turn
returns-then-holds-clause-turn g c =
    (hub_at_command g.D.Device.shows _ _ c.args.r.0 c.next-k.result c.register.result
    c.progress-progress.result c.in-Some-next_command.command c.self.view_is c.self.invariant.shown c.progress-progress.ensures c.in_default.is
    c.if-is_none.ensures c.in_default-doomed.is c.in-Some-next_command.ensures c.next-k.ensures c.register.ensures (sym c.if-holds.ensures)).0

pub returns-then-holds-clause-command : goal.returns-then-holds-clause-command
returns-then-holds-clause-command g c =
    (hub_at_command g.D.Device.shows _ _ c.args.r.0 c.next-k.result c.register.result
    c.progress-progress.result c.in-Some-next_command.command c.self.view_is c.self.invariant.shown c.progress-progress.ensures c.in_default.is
    c.if-is_none.ensures c.in_default-doomed.is c.in-Some-next_command.ensures c.next-k.ensures c.register.ensures (sym c.if-holds.ensures)).1

pub returns-then-holds-clause-placed : goal.returns-then-holds-clause-placed
returns-then-holds-clause-placed g c = λ none. placed_before _ c.args.self.now c.args.r.0 c.progress-progress.result c.self.view_is c.progress-progress.ensures c.if-is_none.ensures none

pub returns-then-holds-clause-choice : goal.returns-then-holds-clause-choice
returns-then-holds-clause-choice g c = λ m.
    sym (hub_commands _ _ c.args.r.0 m c.next-k.result c.register.result c.progress-progress.result c.in-Some-next_command.command _ c.self.view_is
    (sym c.if-is_weak.ensures) c.if-not-has_run.ensures c.progress-progress.ensures c.in_default.is c.in_default-grip_of.ensures
    (ap is_some c.in-Some-arrived.is) c.if-is_none.ensures c.in_default-doomed.is c.in-Some-next_command.ensures c.next-k.ensures c.register.ensures
    (sym c.if-holds.ensures) refl)
