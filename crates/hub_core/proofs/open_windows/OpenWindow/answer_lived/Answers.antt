use Rattle.hub_core.proofs.Prelude.{Commands, Did, HistoryState, Inside, None, Some, answer_told, ap, arith, entries_made, is_access, is_weak, refl, run_no, sym, takes_first, with_doom, ◌∙◌}
use Rattle.hub_core.proofs.calls.Homecomings.{CameHome, back_given, grip_back, may_come}
use Rattle.hub_core.proofs.calls.HubChanges.{answer_entries, doom_follows}
use Rattle.hub_core.proofs.calls.HubReturns.{answer_made, answer_place, answered_back, command_back, doom_place, takes_answer}
use Rattle.hub_core.proofs.calls.ReturnedOrders.{answered_whole, may_tell}
use Rattle.hub_core.proofs.open_windows.OpenWindow.answer_lived.Goals as goal
use Rattle.hub_core.proofs.steps.Gives.{told_access}
use Rattle.hub_core.proofs.steps.LastAnswers.{just_answered}

pub come_home-came-requires : goal.come_home-came-requires
come_home-came-requires g c = record { may = may_come c.self.inside c.args.self.now c.args.grip c.self.view_is c.requires.kept c.self.invariant }

pub refuted-cause-requires : goal.refuted-cause-requires
refuted-cause-requires g c = let command = command_back c.self.inside c.args.self.now c.args.grip.slip c.args.grip.task c.args.k c.self.view_is c.requires.kept c.requires.purpose c.self.invariant in record { run = rw c.slip-slip.ensures command.run; there = rw c.slip-slip.ensures command.within }

pub push-requires-clause-room : goal.push-requires-clause-room
push-requires-clause-room g c = answer_place c.self.inside c.args.k c.args.grip (grip_back c.self.inside c.args.self.now (Commands c.args.k) c.args.grip c.self.view_is c.requires.kept c.requires.purpose c.come_home-came.ensures.called) c.requires.lives c.self.invariant

pub push-requires-clause-follows : goal.push-requires-clause-follows
push-requires-clause-follows g c =
    takes_first c.self.inside.history c.slip-slip.result.maker _ _
    (takes_answer c.self.inside c.args.k c.args.grip c.slip-slip.result c.answer-answer.result c.refuted-cause.result _ _ (grip_back c.self.inside
    c.args.self.now (Commands c.args.k) c.args.grip c.self.view_is c.requires.kept c.requires.purpose c.come_home-came.ensures.called)
    (record {
      same = c.slip-slip.ensures;
      lives = c.requires.lives;
      told = c.answer-answer.ensures ∙ ap answer_told c.come_home-came.ensures.told;
      refuted = c.refuted-cause.ensures;
      answered = refl;
      doomed = refl;
    }) c.self.invariant)

pub note_answer-requires : goal.note_answer-requires
note_answer-requires g c =
    let command = command_back c.self.inside c.args.self.now c.args.grip.slip c.args.grip.task c.args.k c.self.view_is c.requires.kept c.requires.purpose c.self.invariant in
    let last = just_answered c.self.inside.history c.push.new.self c.args.grip.slip.maker c.slip-slip.result.maker c.args.k c.slip-slip.result.device.0
    c.answer-answer.result command.run command.next command.within (command.on ∙ ap (λ s. s.device.0) (sym c.slip-slip.ensures))
    (ap (λ s. s.maker) c.slip-slip.ensures) c.push.ensures in
    let tells = may_tell c.self.inside c.args.k c.args.grip c.slip-slip.result (grip_back c.self.inside c.args.self.now (Commands c.args.k) c.args.grip c.self.view_is c.requires.kept c.requires.purpose c.come_home-came.ensures.called) c.slip-slip.ensures c.self.invariant in
    record {
      access = ap is_access c.answer-answer.ensures ∙ told_access c.come_home-came.result.told;
      told = λ strong. record {
        run = last.run;
        there = last.there;
        device = last.device;
        answered = last.answered;
        homed = tells.device;
        turn = tells.turn (ap (λ (x : HistoryState). is_weak x.setting.mode) (sym c.push.ensures) ∙ strong);
      };
    }

pub doom_for-doomed-requires-clause-follows : goal.doom_for-doomed-requires-clause-follows
doom_for-doomed-requires-clause-follows g c =
    doom_follows c.self.inside.history c.push.new.self c.slip-slip.result.maker c.args.k c.answer-answer.result c.refuted-cause.result c.push.ensures
    (takes_answer c.self.inside c.args.k c.args.grip c.slip-slip.result c.answer-answer.result c.refuted-cause.result c.push.new.self _ (grip_back
    c.self.inside c.args.self.now (Commands c.args.k) c.args.grip c.self.view_is c.requires.kept c.requires.purpose c.come_home-came.ensures.called)
    (record {
      same = c.slip-slip.ensures;
      lives = c.requires.lives;
      told = c.answer-answer.ensures ∙ ap answer_told c.come_home-came.ensures.told;
      refuted = c.refuted-cause.ensures;
      answered = c.push.ensures;
      doomed = refl;
    }) c.self.invariant)

pub doom_for-doomed-requires-clause-room : goal.doom_for-doomed-requires-clause-room
doom_for-doomed-requires-clause-room g c = λ some.
    doom_place c.self.inside c.args.k c.args.grip c.slip-slip.result c.answer-answer.result c.refuted-cause.result c.push.new.self
    (with_doom c.push.new.self c.slip-slip.result.maker c.refuted-cause.result) (grip_back c.self.inside c.args.self.now
    (Commands c.args.k) c.args.grip c.self.view_is c.requires.kept c.requires.purpose c.come_home-came.ensures.called)
    (record {
      same = c.slip-slip.ensures;
      lives = c.requires.lives;
      told = c.answer-answer.ensures ∙ ap answer_told c.come_home-came.ensures.told;
      refuted = c.refuted-cause.ensures;
      answered = c.push.ensures;
      doomed = refl;
    }) c.self.invariant some

pub invariant_of-self : goal.invariant_of-self
invariant_of-self g c =
    answered_whole c.self.inside _ c.come_home-came.result.held c.args.k c.args.grip c.slip-slip.result c.answer-answer.result c.refuted-cause.result
    c.push.new.self _ _ _ c.note_answer.new.order (grip_back c.self.inside c.args.self.now
    (Commands c.args.k) c.args.grip c.self.view_is c.requires.kept c.requires.purpose c.come_home-came.ensures.called)
    (record { later = omega (arith, c.max-self-inside.ensures); home = c.come_home-came.ensures.home; new = refl })
    (record {
      same = c.slip-slip.ensures;
      lives = c.requires.lives;
      told = c.answer-answer.ensures ∙ ap answer_told c.come_home-came.ensures.told;
      refuted = c.refuted-cause.ensures;
      answered = c.push.ensures;
      doomed = c.doom_for-doomed.ensures.history;
    }) (record {
      value_is = c.come_home-came.ensures.held;
      view_is = refl;
      wrote_is = refl;
      last_is = refl;
      line = c.note_answer.ensures.line;
      table = λ strong. c.note_answer.ensures.ordered (ap (λ (x : HistoryState). is_weak x.setting.mode) c.push.ensures ∙ strong);
      same_table = λ weak. c.note_answer.ensures.weakly (ap (λ (x : HistoryState). is_weak x.setting.mode) c.push.ensures ∙ weak);
      line_after = c.doom_for-doomed.ensures.line;
      unchanged = c.doom_for-doomed.ensures.table;
      changed = c.doom_for-doomed.ensures.doomed;
    }) c.self.invariant

pub returns : goal.returns
returns g c =
    let t : Inside g.row.D.Denot = record c.self.inside { history = c.doom_for-doomed.new.history; moment = c.max-self-inside.result; checkouts = c.come_home-came.new.self; order = c.doom_for-doomed.new.order } in
    let back : CameHome g.D.Device.shows c.self.inside t (Commands c.args.k) c.args.grip (answer_entries c.slip-slip.result.maker c.args.k c.answer-answer.result c.refuted-cause.result) =
    answered_back c.self.inside t c.args.k c.args.grip c.slip-slip.result c.answer-answer.result c.refuted-cause.result c.push.new.self (grip_back c.self.inside c.args.self.now (Commands c.args.k) c.args.grip c.self.view_is c.requires.kept c.requires.purpose c.come_home-came.ensures.called)
    (record { later = omega (arith, c.max-self-inside.ensures); home = c.come_home-came.ensures.home; new = refl })
    (record {
      same = c.slip-slip.ensures;
      lives = c.requires.lives;
      told = c.answer-answer.ensures ∙ ap answer_told c.come_home-came.ensures.told;
      refuted = c.refuted-cause.ensures;
      answered = c.push.ensures;
      doomed = c.doom_for-doomed.ensures.history;
    }) in
    let made = back_given c.self.inside t c.args.self.now c.args.moment (Commands c.args.k) c.args.grip _
    (entries_made (record { a = Some (Did (run_no c.slip-slip.result.maker) c.args.k c.answer-answer.result); b = c.doom_for-doomed.result; c = None })) c.self.view_is
    c.requires.maker c.max-self-inside.ensures back
    (answer_made c.slip-slip.result c.args.k c.answer-answer.result c.refuted-cause.result _ _ refl c.doom_for-doomed.ensures.entry) c.self.invariant in
    record { given = made.given; window = made.window }
