use Rattle.hub_core.proofs.Prelude.{AnswersDown, Did, Down, HistoryState, Inside, Marked, None, Some, ap, entries_made, is_weak, refl, sym, takes_first, ◌∙◌}
use Rattle.hub_core.proofs.calls.HubChanges.{Going, chosen_here, doom_follows, entered_answers, takes_here}
use Rattle.hub_core.proofs.calls.HubOrders.{down_made, down_place, may_tell_down, told_enters, told_place, told_takes, told_whole}
use Rattle.hub_core.proofs.open_windows.OpenWindow.answer_down.Goals as goal
use Rattle.hub_core.proofs.steps.LastAnswers.{just_answered}

pub command-requires : goal.command-requires
command-requires g c =
    let may = may_tell_down c.self.inside c.args.r.0 c.args.moment c.args.k c.args.must
    (chosen_here c.self.inside c.args.self.now c.args.r.0 c.args.moment (AnswersDown c.args.k c.args.must) c.self.view_is c.requires) c.self.invariant in
    record { run = may.run; there = may.within }

pub push-requires-clause-room : goal.push-requires-clause-room
push-requires-clause-room g c = down_place c.self.inside c.args.r.0 c.args.moment c.args.k c.args.must (chosen_here c.self.inside c.args.self.now c.args.r.0 c.args.moment (AnswersDown c.args.k c.args.must) c.self.view_is c.requires) c.self.invariant

pub push-requires-clause-follows : goal.push-requires-clause-follows
push-requires-clause-follows g c = takes_first c.self.inside.history c.args.r.0 _ _ (takes_here c.self.inside c.args.r.0 c.args.moment _ Going (chosen_here c.self.inside c.args.self.now c.args.r.0 c.args.moment (AnswersDown c.args.k c.args.must) c.self.view_is c.requires) c.self.invariant)

pub mark-requires-clause-run : goal.mark-requires-clause-run
mark-requires-clause-run g c = let may = may_tell_down c.self.inside c.args.r.0 c.args.moment c.args.k c.args.must (chosen_here c.self.inside c.args.self.now c.args.r.0 c.args.moment (AnswersDown c.args.k c.args.must) c.self.view_is c.requires) c.self.invariant in may.stands

pub mark-requires-clause-device : goal.mark-requires-clause-device
mark-requires-clause-device g c = let may = may_tell_down c.self.inside c.args.r.0 c.args.moment c.args.k c.args.must (chosen_here c.self.inside c.args.self.now c.args.r.0 c.args.moment (AnswersDown c.args.k c.args.must) c.self.view_is c.requires) c.self.invariant in rw c.command.ensures may.low

pub note_answer-requires : goal.note_answer-requires
note_answer-requires g c =
    let may = may_tell_down c.self.inside c.args.r.0 c.args.moment c.args.k c.args.must (chosen_here c.self.inside c.args.self.now c.args.r.0 c.args.moment (AnswersDown c.args.k c.args.must) c.self.view_is c.requires) c.self.invariant in
    let last = just_answered c.self.inside.history c.push.new.self c.args.r.0 c.args.r.0 c.args.k c.command.result.device.0 Down may.run may.number may.within (ap (λ x. x.device.0) (sym c.command.ensures)) refl c.push.ensures in
    record {
      access = refl;
      told = λ strong. record {
        run = last.run;
        there = last.there;
        device = last.device;
        answered = last.answered;
        homed = rw c.command.ensures may.homed;
        turn = rw c.command.ensures (may.turn (ap (λ (x : HistoryState). is_weak x.setting.mode) (sym c.push.ensures) ∙ strong));
      };
    }

pub doom_for-doomed-requires-clause-follows : goal.doom_for-doomed-requires-clause-follows
doom_for-doomed-requires-clause-follows g c =
    doom_follows c.self.inside.history c.push.new.self c.args.r.0 c.args.k Down c.must_down.result c.push.ensures
    (told_takes c.self.inside c.args.r.0 c.args.moment c.args.k c.args.must c.must_down.result
    (chosen_here c.self.inside c.args.self.now c.args.r.0 c.args.moment (AnswersDown c.args.k c.args.must) c.self.view_is c.requires) c.must_down.ensures
    c.self.invariant)

pub doom_for-doomed-requires-clause-room : goal.doom_for-doomed-requires-clause-room
doom_for-doomed-requires-clause-room g c =
    told_place c.self.inside c.args.r.0 c.args.moment c.args.k c.args.must c.must_down.result c.push.new.self
    (chosen_here c.self.inside c.args.self.now c.args.r.0 c.args.moment (AnswersDown c.args.k c.args.must) c.self.view_is c.requires) c.must_down.ensures
    c.push.ensures c.self.invariant

pub invariant_of-self : goal.invariant_of-self
invariant_of-self g c =
    told_whole c.self.inside _ c.args.r.0 c.args.moment c.args.k c.args.must c.command.result c.must_down.result c.push.new.self _ c.note_answer.new.order (chosen_here c.self.inside c.args.self.now c.args.r.0 c.args.moment (AnswersDown c.args.k c.args.must) c.self.view_is c.requires)
    (λ i. record c.self.inside { history = c.doom_for-doomed.new.history; moment = c.max-self-inside.ensures i; order = c.doom_for-doomed.new.order }) (record {
      command = c.command.ensures;
      because = c.must_down.ensures;
      answered = c.push.ensures;
      doomed = c.doom_for-doomed.ensures.history;
      last_is = refl;
      marks = ap (λ (l : Marked). l.marks) c.note_answer.ensures.line ∙ c.mark.ensures.marks;
      spare = ap (λ (l : Marked). l.spare) c.note_answer.ensures.line ∙ c.mark.ensures.spare;
      runs = ap (λ (l : Marked). l.runs) c.note_answer.ensures.line ∙ c.mark.ensures.runs;
      sealed = ap (λ (l : Marked). l.sealed) c.note_answer.ensures.line ∙ c.mark.ensures.sealed;
      table = λ strong. c.note_answer.ensures.ordered (ap (λ (x : HistoryState). is_weak x.setting.mode) c.push.ensures ∙ strong);
      same_table = λ weak. c.note_answer.ensures.weakly (ap (λ (x : HistoryState). is_weak x.setting.mode) c.push.ensures ∙ weak);
      line_after = c.doom_for-doomed.ensures.line;
      unchanged = c.doom_for-doomed.ensures.table;
      changed = c.doom_for-doomed.ensures.doomed;
    }) c.self.invariant

pub returns-clause-answer : goal.returns-clause-answer
returns-clause-answer g c =
    let t : Inside g.row.D.Denot = record c.self.inside { history = c.doom_for-doomed.new.history; moment = c.max-self-inside.result; order = c.doom_for-doomed.new.order } in
    entered_answers c.self.inside t c.args.self.now c.args.r.0 c.args.moment _ (entries_made (record { a = Some (Did c.args.r c.args.k Down); b = c.doom_for-doomed.result; c = None })) c.self.view_is
    (told_enters c.self.inside t c.args.r.0 c.args.moment c.args.k c.args.must c.command.result c.must_down.result c.push.new.self _ c.note_answer.new.order (chosen_here c.self.inside c.args.self.now c.args.r.0 c.args.moment (AnswersDown c.args.k c.args.must) c.self.view_is c.requires)
    (λ i. record c.self.inside { history = c.doom_for-doomed.new.history; moment = c.max-self-inside.ensures i; order = c.doom_for-doomed.new.order }) (record {
      command = c.command.ensures;
      because = c.must_down.ensures;
      answered = c.push.ensures;
      doomed = c.doom_for-doomed.ensures.history;
      last_is = refl;
      marks = ap (λ (l : Marked). l.marks) c.note_answer.ensures.line ∙ c.mark.ensures.marks;
      spare = ap (λ (l : Marked). l.spare) c.note_answer.ensures.line ∙ c.mark.ensures.spare;
      runs = ap (λ (l : Marked). l.runs) c.note_answer.ensures.line ∙ c.mark.ensures.runs;
      sealed = ap (λ (l : Marked). l.sealed) c.note_answer.ensures.line ∙ c.mark.ensures.sealed;
      table = λ strong. c.note_answer.ensures.ordered (ap (λ (x : HistoryState). is_weak x.setting.mode) c.push.ensures ∙ strong);
      same_table = λ weak. c.note_answer.ensures.weakly (ap (λ (x : HistoryState). is_weak x.setting.mode) c.push.ensures ∙ weak);
      line_after = c.doom_for-doomed.ensures.line;
      unchanged = c.doom_for-doomed.ensures.table;
      changed = c.doom_for-doomed.ensures.doomed;
    })) (down_made c.args.r.0 c.args.k c.must_down.result _ c.doom_for-doomed.result refl c.doom_for-doomed.ensures.entry)
