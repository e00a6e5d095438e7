use Rattle.hub_core.proofs.Prelude.{Commands, Did, Down, HistoryState, Inside, Some, ap, arith, entries_made, is_weak, refl, run_no, sym, takes_first, ◌<◌, ◌∙◌}
use Rattle.hub_core.proofs.calls.Deaths.{after_death, death_entries, death_follows, death_made, death_may, died_back, died_whole, found_first}
use Rattle.hub_core.proofs.calls.Homecomings.{CameHome, back_given, grip_back, may_come}
use Rattle.hub_core.proofs.calls.HubChanges.{doom_follows}
use Rattle.hub_core.proofs.calls.HubReturns.{command_back}
use Rattle.hub_core.proofs.open_windows.OpenWindow.answer_died.Goals as goal
use Rattle.hub_core.proofs.steps.LastAnswers.{just_answered}

pub come_home-came-requires : goal.come_home-came-requires
come_home-came-requires g c = record { may = may_come c.self.inside c.args.self.now c.args.grip c.self.view_is c.requires.kept c.self.invariant }

pub died_by-cause-requires : goal.died_by-cause-requires
died_by-cause-requires g c = let command = command_back c.self.inside c.args.self.now c.args.grip.slip c.args.grip.task c.args.k c.self.view_is c.requires.kept c.requires.purpose c.self.invariant in record { run = rw c.slip-slip.ensures command.run; there = rw c.slip-slip.ensures command.within }

pub note_fall-fell-requires : goal.note_fall-fell-requires
note_fall-fell-requires g c = record {
  may =
      death_may c.self.inside c.args.k c.args.grip c.slip-slip.result c.come_home-came.result.events (grip_back c.self.inside c.args.self.now
      (Commands c.args.k) c.args.grip c.self.view_is c.requires.kept c.requires.purpose c.come_home-came.ensures.called)
      (record { same = c.slip-slip.ensures; up = refl; died = c.requires.died; events_are = c.come_home-came.ensures.events }) c.self.invariant;
  follows =
      death_follows c.self.inside c.args.k c.args.grip c.slip-slip.result (grip_back c.self.inside c.args.self.now (Commands c.args.k) c.args.grip
      c.self.view_is c.requires.kept c.requires.purpose c.come_home-came.ensures.called) c.slip-slip.ensures c.requires.died c.self.invariant;
}

pub push-requires : goal.push-requires
push-requires g c =
    let after = after_death c.self.inside c.args.k c.args.grip c.slip-slip.result c.is_first-first.result c.died_by-cause.result c.note_fall-fell.new.history
    c.note_fall-fell.new.order.table (grip_back c.self.inside c.args.self.now
    (Commands c.args.k) c.args.grip c.self.view_is c.requires.kept c.requires.purpose c.come_home-came.ensures.called) c.slip-slip.ensures c.requires.died
    c.is_first-first.ensures c.died_by-cause.ensures c.note_fall-fell.ensures.history c.note_fall-fell.ensures.order.counted c.self.invariant in
    record { room = after.room; follows = takes_first c.note_fall-fell.new.history c.slip-slip.result.maker _ _ after.takes }

pub note_answer-requires : goal.note_answer-requires
note_answer-requires g c =
    let after = after_death c.self.inside c.args.k c.args.grip c.slip-slip.result c.is_first-first.result c.died_by-cause.result c.note_fall-fell.new.history
    c.note_fall-fell.new.order.table (grip_back c.self.inside c.args.self.now
    (Commands c.args.k) c.args.grip c.self.view_is c.requires.kept c.requires.purpose c.come_home-came.ensures.called) c.slip-slip.ensures c.requires.died
    c.is_first-first.ensures c.died_by-cause.ensures c.note_fall-fell.ensures.history c.note_fall-fell.ensures.order.counted c.self.invariant in
    let last = just_answered c.note_fall-fell.new.history c.push.new.self c.slip-slip.result.maker c.slip-slip.result.maker c.args.k c.slip-slip.result.device.0 Down after.run after.next after.there after.on refl c.push.ensures in
    record {
      access = refl;
      told = λ strong. record {
        run = last.run;
        there = last.there;
        device = last.device;
        answered = last.answered;
        homed = after.device;
        turn = after.turn (ap (λ (x : HistoryState). is_weak x.setting.mode) (sym c.push.ensures) ∙ strong);
      };
    }

pub doom_for-doomed-requires-clause-follows : goal.doom_for-doomed-requires-clause-follows
doom_for-doomed-requires-clause-follows g c =
    doom_follows c.note_fall-fell.new.history c.push.new.self c.slip-slip.result.maker c.args.k Down c.died_by-cause.result c.push.ensures
    (after_death c.self.inside c.args.k c.args.grip c.slip-slip.result c.is_first-first.result c.died_by-cause.result c.note_fall-fell.new.history
    c.note_fall-fell.new.order.table (grip_back c.self.inside c.args.self.now
    (Commands c.args.k) c.args.grip c.self.view_is c.requires.kept c.requires.purpose c.come_home-came.ensures.called) c.slip-slip.ensures c.requires.died
    c.is_first-first.ensures c.died_by-cause.ensures c.note_fall-fell.ensures.history c.note_fall-fell.ensures.order.counted c.self.invariant).takes

pub doom_for-doomed-requires-clause-room : goal.doom_for-doomed-requires-clause-room
doom_for-doomed-requires-clause-room g c = λ some.
    let more : 1 < c.note_fall-fell.new.history.spare = (after_death c.self.inside c.args.k c.args.grip c.slip-slip.result c.is_first-first.result
    c.died_by-cause.result c.note_fall-fell.new.history c.note_fall-fell.new.order.table (grip_back c.self.inside c.args.self.now
    (Commands c.args.k) c.args.grip c.self.view_is c.requires.kept c.requires.purpose c.come_home-came.ensures.called) c.slip-slip.ensures c.requires.died
    c.is_first-first.ensures c.died_by-cause.ensures c.note_fall-fell.ensures.history c.note_fall-fell.ensures.order.counted c.self.invariant).doom_room some in
    let left = ap (λ (x : HistoryState). x.spare) c.push.ensures in
    omega (arith, more, left)

pub invariant_of-self : goal.invariant_of-self
invariant_of-self g c =
    died_whole c.self.inside _ c.args.k c.args.grip c.slip-slip.result c.come_home-came.result.events c.is_first-first.result c.then_some.result
    c.died_by-cause.result c.note_fall-fell.new.history c.push.new.self _ _ _ c.note_fall-fell.new.order c.note_answer.new.order (grip_back c.self.inside
    c.args.self.now (Commands c.args.k) c.args.grip c.self.view_is c.requires.kept c.requires.purpose c.come_home-came.ensures.called)
    (record { later = omega (arith, c.max-self-inside.ensures); home = c.come_home-came.ensures.home; new = refl })
    (record {
      falls = record { same = c.slip-slip.ensures; up = refl; died = c.requires.died; events_are = c.come_home-came.ensures.events };
      first_is = c.is_first-first.ensures;
      because = c.died_by-cause.ensures;
      told = c.note_fall-fell.ensures.history;
      answered = c.push.ensures;
      doomed = c.doom_for-doomed.ensures.history;
    }) (record {
      died_is = c.then_some.ensures ∙ found_first c.is_first-first.result _;
      fell = c.note_fall-fell.ensures.order;
      view_is = refl;
      wrote_is = refl;
      last_is = refl;
      line = c.note_answer.ensures.line;
      table = λ strong. c.note_answer.ensures.ordered ((ap (λ (x : HistoryState). is_weak x.setting.mode) c.push.ensures ∙ ap (λ (x : HistoryState). is_weak x.setting.mode) c.note_fall-fell.ensures.history) ∙ strong);
      same_table = λ weak. c.note_answer.ensures.weakly ((ap (λ (x : HistoryState). is_weak x.setting.mode) c.push.ensures ∙ ap (λ (x : HistoryState). is_weak x.setting.mode) c.note_fall-fell.ensures.history) ∙ weak);
      line_after = c.doom_for-doomed.ensures.line;
      unchanged = c.doom_for-doomed.ensures.table;
      changed = c.doom_for-doomed.ensures.doomed;
    }) c.self.invariant

pub returns : goal.returns
returns g c =
    let t : Inside g.row.D.Denot = record c.self.inside { history = c.doom_for-doomed.new.history; moment = c.max-self-inside.result; checkouts = c.come_home-came.new.self; order = c.doom_for-doomed.new.order } in
    let back : CameHome g.D.Device.shows c.self.inside t (Commands c.args.k) c.args.grip (death_entries c.slip-slip.result c.args.k c.died_by-cause.result) =
    died_back c.self.inside t c.args.k c.args.grip c.slip-slip.result c.come_home-came.result.events c.is_first-first.result c.died_by-cause.result
    c.note_fall-fell.new.history c.push.new.self (grip_back c.self.inside c.args.self.now
    (Commands c.args.k) c.args.grip c.self.view_is c.requires.kept c.requires.purpose c.come_home-came.ensures.called)
    (record { later = omega (arith, c.max-self-inside.ensures); home = c.come_home-came.ensures.home; new = refl })
    (record {
      falls = record { same = c.slip-slip.ensures; up = refl; died = c.requires.died; events_are = c.come_home-came.ensures.events };
      first_is = c.is_first-first.ensures;
      because = c.died_by-cause.ensures;
      told = c.note_fall-fell.ensures.history;
      answered = c.push.ensures;
      doomed = c.doom_for-doomed.ensures.history;
    }) c.self.invariant in
    let made = back_given c.self.inside t c.args.self.now c.args.moment (Commands c.args.k) c.args.grip _
    (entries_made (record { a = Some c.note_fall-fell.result.entry; b = Some (Did (run_no c.slip-slip.result.maker) c.args.k Down); c = c.doom_for-doomed.result }))
    c.self.view_is c.requires.maker c.max-self-inside.ensures back
    (death_made c.slip-slip.result c.args.k c.died_by-cause.result _ _ _ c.note_fall-fell.ensures.entry refl c.doom_for-doomed.ensures.entry) c.self.invariant in
    record { given = made.given; window = made.window }
