use Rattle.hub_core.proofs.Prelude.{HistoryState, Inside, Skipped, Skips, ap, is_weak, refl, sym, ◌∙◌}
use Rattle.hub_core.proofs.calls.HubChanges.{Going, chosen_here, entered_answers, follows_here, has_place}
use Rattle.hub_core.proofs.calls.SkippedCalls.{may_skip, skips_whole}
use Rattle.hub_core.proofs.open_windows.OpenWindow.skip.Goals as goal
use Rattle.hub_core.proofs.steps.LastAnswers.{just_answered}

pub command-requires : goal.command-requires
command-requires g c = let may = may_skip c.self.inside c.args.r.0 c.args.moment c.args.k (chosen_here c.self.inside c.args.self.now c.args.r.0 c.args.moment (Skips c.args.k) c.self.view_is c.requires) c.self.invariant in record { run = may.run; there = may.within }

pub push-requires-clause-room : goal.push-requires-clause-room
push-requires-clause-room g c = has_place c.self.inside c.args.r.0 c.args.moment _ Going (chosen_here c.self.inside c.args.self.now c.args.r.0 c.args.moment (Skips c.args.k) c.self.view_is c.requires) c.self.invariant

pub push-requires-clause-follows : goal.push-requires-clause-follows
push-requires-clause-follows g c = follows_here c.self.inside c.args.r.0 c.args.moment _ Going (chosen_here c.self.inside c.args.self.now c.args.r.0 c.args.moment (Skips c.args.k) c.self.view_is c.requires) c.self.invariant

pub leave_skipped-requires : goal.leave_skipped-requires
leave_skipped-requires g c =
    let may = may_skip c.self.inside c.args.r.0 c.args.moment c.args.k (chosen_here c.self.inside c.args.self.now c.args.r.0 c.args.moment (Skips c.args.k) c.self.view_is c.requires) c.self.invariant in
    let last = just_answered c.self.inside.history c.push.new.self c.args.r.0 c.args.r.0 c.args.k c.command.result.device.0 Skipped may.run may.number may.within (ap (λ x. x.device.0) (sym c.command.ensures)) refl c.push.ensures in
    record {
      run = last.run;
      there = last.there;
      device = last.device;
      answered = last.answered;
      homed = rw c.command.ensures may.homed;
      turn = λ strong. rw c.command.ensures (may.turn (ap (λ (x : HistoryState). is_weak x.setting.mode) (sym c.push.ensures) ∙ strong));
    }

pub invariant_of-self : goal.invariant_of-self
invariant_of-self g c =
    skips_whole c.self.inside _ c.args.r.0 c.args.moment c.args.k c.command.result _ (record {
      chosen = chosen_here c.self.inside c.args.self.now c.args.r.0 c.args.moment (Skips c.args.k) c.self.view_is c.requires;
      new = λ i. record c.self.inside { history = c.push.ensures i; moment = c.max-self-inside.ensures i; order = c.leave_skipped.new.order };
    }) (record {
      command = c.command.ensures;
      last_is = refl;
      line = c.leave_skipped.ensures.line;
      table = λ strong. c.leave_skipped.ensures.ordered (ap (λ (x : HistoryState). is_weak x.setting.mode) c.push.ensures ∙ strong);
      same_table = λ weak. c.leave_skipped.ensures.weakly (ap (λ (x : HistoryState). is_weak x.setting.mode) c.push.ensures ∙ weak);
    }) c.self.invariant

pub returns-clause-answer : goal.returns-clause-answer
returns-clause-answer g c =
    let t : Inside g.row.D.Denot = record c.self.inside { history = c.push.new.self; moment = c.max-self-inside.result; order = c.leave_skipped.new.order } in
    entered_answers c.self.inside t c.args.self.now c.args.r.0 c.args.moment _ c.one_made.result c.self.view_is (record {
      chosen = chosen_here c.self.inside c.args.self.now c.args.r.0 c.args.moment (Skips c.args.k) c.self.view_is c.requires;
      new = λ i. record c.self.inside { history = c.push.ensures i; moment = c.max-self-inside.ensures i; order = c.leave_skipped.new.order };
    }) c.one_made.ensures
