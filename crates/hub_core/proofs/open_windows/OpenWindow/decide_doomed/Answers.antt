use Rattle.abort_rollback.specs.Undos.{next_undo}
use Rattle.hub_core.proofs.calls.HubChoices.{doomed_busy, doomed_drops, doomed_ends, doomed_goes, driven_is, dropped_is}
use Rattle.hub_core.proofs.calls.NextUndos.{next_undo_is}
use Rattle.hub_core.proofs.open_windows.OpenWindow.decide_doomed.Goals as goal
use Rattle.hub_core.proofs.Prelude.{WindowParts, ap, configuration_of, point_of, sym, ◌∙◌}

pub returns-then-is_out : goal.returns-then-is_out
returns-then-is_out g c = λ m.
    let driven = driven_is (point_of (configuration_of c.args.self.now)) c.args.r.0 c.in-Drive.d
    c.in-Drive.value (c.in-Drive.ensures ∙ ap (λ (p : WindowParts). next_undo p.table c.args.r.0) c.standing.view_is ∙ next_undo_is (configuration_of c.args.self.now) _ c.args.r.0 c.standing-standing.ensures c.requires.live) in
    doomed_busy (point_of (configuration_of c.args.self.now)) c.args.r.0 c.args.cause c.in-Drive.d driven.next (sym c.if-is_out.ensures)

pub returns-else-is_out : goal.returns-else-is_out
returns-else-is_out g c = λ m.
    let driven = driven_is (point_of (configuration_of c.args.self.now)) c.args.r.0 c.in-Drive.d
    c.in-Drive.value (c.in-Drive.ensures ∙ ap (λ (p : WindowParts). next_undo p.table c.args.r.0) c.standing.view_is ∙ next_undo_is (configuration_of c.args.self.now) _ c.args.r.0 c.standing-standing.ensures c.requires.live) in
    doomed_goes (point_of (configuration_of c.args.self.now)) c.args.r.0 c.args.cause c.in-Drive.d c.in-Drive.value driven (sym c.if-is_out.ensures)

pub returns-then-is_out-2 : goal.returns-then-is_out-2
returns-then-is_out-2 g c = λ m.
    let dropped = dropped_is (point_of (configuration_of c.args.self.now)) c.args.r.0 c.in-Drop.d
    (c.in-Drop.ensures ∙ ap (λ (p : WindowParts). next_undo p.table c.args.r.0) c.standing.view_is
    ∙ next_undo_is (configuration_of c.args.self.now) _ c.args.r.0 c.standing-standing.ensures c.requires.live) in
    doomed_busy (point_of (configuration_of c.args.self.now)) c.args.r.0 c.args.cause c.in-Drop.d dropped.next (sym c.if-is_out-2.ensures)

pub returns-else-is_out-2 : goal.returns-else-is_out-2
returns-else-is_out-2 g c = λ m.
    let dropped = dropped_is (point_of (configuration_of c.args.self.now)) c.args.r.0 c.in-Drop.d
    (c.in-Drop.ensures ∙ ap (λ (p : WindowParts). next_undo p.table c.args.r.0) c.standing.view_is
    ∙ next_undo_is (configuration_of c.args.self.now) _ c.args.r.0 c.standing-standing.ensures c.requires.live) in
    doomed_drops (point_of (configuration_of c.args.self.now)) c.args.r.0 c.args.cause c.in-Drop.d dropped (sym c.if-is_out-2.ensures)

pub returns-in-Finished : goal.returns-in-Finished
returns-in-Finished g c = λ m. doomed_ends (point_of (configuration_of c.args.self.now)) c.args.r.0 c.args.cause
    (c.in-Finished.ensures ∙ ap (λ (p : WindowParts). next_undo p.table c.args.r.0) c.standing.view_is ∙ next_undo_is (configuration_of c.args.self.now) _ c.args.r.0 c.standing-standing.ensures c.requires.live)
