use Rattle.hub_core.proofs.Prelude.{Doomed, OpenHub, Revoked, Revokes, ap, configuration_of, grip_wait, is_run, sym, with_entry, ◌∙◌}
use Rattle.hub_core.proofs.calls.HubChanges.{Going, chosen_here, follows_here, has_place}
use Rattle.hub_core.proofs.calls.Revocations.{borrowing, revokes_whole}
use Rattle.hub_core.proofs.open_windows.OpenWindow.revoke.Goals as goal

pub grip_of-out-requires : goal.grip_of-out-requires
grip_of-out-requires g c =
    ap (λ s. is_run s.setting.runs c.args.borrower.0) (sym c.self.view_is)
    ∙ (borrowing c.self.inside c.args.r.0 c.args.moment c.args.borrower c.args.d c.args.deadline
    (chosen_here c.self.inside c.args.self.now c.args.r.0 c.args.moment (Revokes c.args.borrower c.args.d c.args.deadline) c.self.view_is c.requires)
    c.self.invariant).run

pub push-requires-clause-room : goal.push-requires-clause-room
push-requires-clause-room g c = has_place c.self.inside c.args.r.0 c.args.moment _ Going (chosen_here c.self.inside c.args.self.now c.args.r.0 c.args.moment (Revokes c.args.borrower c.args.d c.args.deadline) c.self.view_is c.requires) c.self.invariant

pub push-requires-clause-follows : goal.push-requires-clause-follows
push-requires-clause-follows g c = rw c.max-self-inside.ensures (follows_here c.self.inside c.args.r.0 c.args.moment _ Going (chosen_here c.self.inside c.args.self.now c.args.r.0 c.args.moment (Revokes c.args.borrower c.args.d c.args.deadline) c.self.view_is c.requires) c.self.invariant)

pub invariant_of-self : goal.invariant_of-self
invariant_of-self g c =
    let new = c.push.ensures ∙ ap (λ m. with_entry c.self.inside.history c.args.r.0 (Doomed c.args.borrower (Revoked c.args.r c.args.d c.args.deadline m))) c.max-self-inside.ensures in
    let hand = c.grip_of-out.ensures ∙ ap (λ (s : OpenHub g.row.D.Denot). grip_wait s.setting (configuration_of s).grips c.args.borrower.0) (sym c.self.view_is) in
    revokes_whole c.self.inside _ c.args.r.0 c.args.moment c.args.borrower c.args.d c.args.deadline c.grip_of-out.result (record {
      chosen = chosen_here c.self.inside c.args.self.now c.args.r.0 c.args.moment (Revokes c.args.borrower c.args.d c.args.deadline) c.self.view_is c.requires;
      new = λ i. record c.self.inside { history = new i; moment = c.max-self-inside.ensures i; order = c.doom.new.self };
    }) hand c.doom.ensures.line c.doom.ensures.table c.self.invariant
