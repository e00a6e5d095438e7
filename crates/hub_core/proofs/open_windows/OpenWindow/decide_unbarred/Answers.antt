use Rattle.hub_core.proofs.calls.HubChoices.{unbarred_busy, unbarred_down, unbarred_goes, unbarred_seen}
use Rattle.hub_core.proofs.Prelude.{configuration_of, false, point_of, sym, ◌∙◌}
use Rattle.hub_core.proofs.calls.HubChanges.{strong_here}
use Rattle.hub_core.proofs.calls.SeenDevices.{seen_at}
use Rattle.hub_core.proofs.open_windows.OpenWindow.decide_unbarred.Goals as goal

pub sees_down-requires : goal.sees_down-requires
sees_down-requires g c = (seen_at c.self.inside c.args.self.now c.args.r.0 c.args.k c.args.command c.self.view_is c.requires.turn c.requires.command (strong_here c.self.inside c.args.self.now false c.self.view_is c.requires.strong) c.self.invariant).below

pub returns-then-sees_down : goal.returns-then-sees_down
returns-then-sees_down g c = λ m.
    let seen = seen_at c.self.inside c.args.self.now c.args.r.0 c.args.k c.args.command c.self.view_is c.requires.turn c.requires.command (strong_here c.self.inside c.args.self.now false c.self.view_is c.requires.strong) c.self.invariant in
    unbarred_seen (point_of (configuration_of c.args.self.now)) c.args.r.0 c.args.k c.args.command seen.strong (sym seen.view ∙ sym c.if-sees_down.ensures)

pub returns-then-is_out : goal.returns-then-is_out
returns-then-is_out g c = λ m.
    let seen = seen_at c.self.inside c.args.self.now c.args.r.0 c.args.k c.args.command c.self.view_is c.requires.turn c.requires.command (strong_here c.self.inside c.args.self.now false c.self.view_is c.requires.strong) c.self.invariant in
    unbarred_busy (point_of (configuration_of c.args.self.now)) c.args.r.0 c.args.k c.args.command seen.strong (sym seen.view ∙ sym c.if-sees_down.ensures) (sym c.if-is_out.ensures)

pub is_up-requires : goal.is_up-requires
is_up-requires g c = (seen_at c.self.inside c.args.self.now c.args.r.0 c.args.k c.args.command c.self.view_is c.requires.turn c.requires.command (strong_here c.self.inside c.args.self.now false c.self.view_is c.requires.strong) c.self.invariant).below

pub returns-then-is_up : goal.returns-then-is_up
returns-then-is_up g c = λ m.
    let seen = seen_at c.self.inside c.args.self.now c.args.r.0 c.args.k c.args.command c.self.view_is c.requires.turn c.requires.command (strong_here c.self.inside c.args.self.now false c.self.view_is c.requires.strong) c.self.invariant in
    unbarred_goes (point_of (configuration_of c.args.self.now)) c.args.r.0 c.args.k c.args.command seen.strong (sym seen.view ∙ sym c.if-sees_down.ensures) (sym c.if-is_out.ensures) (sym seen.up ∙ sym c.if-is_up.ensures)

pub returns-else-is_up : goal.returns-else-is_up
returns-else-is_up g c = λ m.
    let seen = seen_at c.self.inside c.args.self.now c.args.r.0 c.args.k c.args.command c.self.view_is c.requires.turn c.requires.command (strong_here c.self.inside c.args.self.now false c.self.view_is c.requires.strong) c.self.invariant in
    unbarred_down (point_of (configuration_of c.args.self.now)) c.args.r.0 c.args.k c.args.command seen.strong (sym seen.view ∙ sym c.if-sees_down.ensures) (sym c.if-is_out.ensures) (sym seen.up ∙ sym c.if-is_up.ensures)
