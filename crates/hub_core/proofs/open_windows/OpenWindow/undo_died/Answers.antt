use Rattle.hub_core.proofs.Prelude.{Inside, None, Some, Undid, Undoes, [], arith, entries_made, false, progress_at, refl, run_no, ◌∷◌}
use Rattle.hub_core.proofs.calls.Deaths.{drop_follows, drop_may, drop_place, dropped_back, dropped_entries, dropped_whole, undo_follows}
use Rattle.hub_core.proofs.calls.Homecomings.{CameHome, back_given, grip_back, may_come}
use Rattle.hub_core.proofs.calls.HubReturns.{undone_value}
use Rattle.hub_core.proofs.open_windows.OpenWindow.undo_died.Goals as goal

pub come_home-came-requires : goal.come_home-came-requires
come_home-came-requires g c = record { may = may_come c.self.inside c.args.self.now c.args.grip c.self.view_is c.requires.kept c.self.invariant }

pub note_fall-fell-requires : goal.note_fall-fell-requires
note_fall-fell-requires g c =
    let value = undone_value (progress_at c.args.self.now.devices c.args.grip.slip.device.0).purpose c.requires.purpose in
    record {
      may =
          drop_may c.self.inside value.0 c.args.grip c.slip-slip.result c.come_home-came.result.events
          (grip_back c.self.inside c.args.self.now (Undoes value.0) c.args.grip c.self.view_is c.requires.kept value.1 c.come_home-came.ensures.called)
          (record { same = c.slip-slip.ensures; up = refl; died = c.requires.died; events_are = c.come_home-came.ensures.events }) c.self.invariant;
      follows =
          drop_follows c.self.inside value.0 c.args.grip c.slip-slip.result
          (grip_back c.self.inside c.args.self.now (Undoes value.0) c.args.grip c.self.view_is c.requires.kept value.1 c.come_home-came.ensures.called)
          c.slip-slip.ensures c.requires.died c.self.invariant;
    }

pub push-requires-clause-room : goal.push-requires-clause-room
push-requires-clause-room g c =
    let value = undone_value (progress_at c.args.self.now.devices c.args.grip.slip.device.0).purpose c.requires.purpose in
    drop_place c.self.inside value.0 c.args.grip c.slip-slip.result c.note_fall-fell.new.history
    (grip_back c.self.inside c.args.self.now (Undoes value.0) c.args.grip c.self.view_is c.requires.kept value.1 c.come_home-came.ensures.called)
    c.requires.died c.note_fall-fell.ensures.history c.self.invariant

pub push-requires-clause-follows : goal.push-requires-clause-follows
push-requires-clause-follows g c =
    let value = undone_value (progress_at c.args.self.now.devices c.args.grip.slip.device.0).purpose c.requires.purpose in
    undo_follows c.self.inside value.0 c.args.grip c.slip-slip.result c.note_fall-fell.new.history
    (grip_back c.self.inside c.args.self.now (Undoes value.0) c.args.grip c.self.view_is c.requires.kept value.1 c.come_home-came.ensures.called)
    c.slip-slip.ensures c.requires.died c.note_fall-fell.ensures.history c.self.invariant

pub invariant_of-self : goal.invariant_of-self
invariant_of-self g c =
    let value = undone_value (progress_at c.args.self.now.devices c.args.grip.slip.device.0).purpose c.requires.purpose in
    dropped_whole c.self.inside _ value.0 c.args.grip c.slip-slip.result c.come_home-came.result.events c.note_fall-fell.new.history (grip_back c.self.inside c.args.self.now (Undoes value.0) c.args.grip c.self.view_is c.requires.kept value.1 c.come_home-came.ensures.called)
    (record { later = omega (arith, c.max-self-inside.ensures); home = c.come_home-came.ensures.home; new = refl })
    (record {
      falls = record { same = c.slip-slip.ensures; up = refl; died = c.requires.died; events_are = c.come_home-came.ensures.events };
      told = c.note_fall-fell.ensures.history;
      undone = c.push.ensures;
      order = c.note_fall-fell.ensures.order;
    }) c.self.invariant

pub returns : goal.returns
returns g c =
    let value = undone_value (progress_at c.args.self.now.devices c.args.grip.slip.device.0).purpose c.requires.purpose in
    let t : Inside g.row.D.Denot = record c.self.inside { history = c.push.new.self; moment = c.max-self-inside.result; checkouts = c.come_home-came.new.self; order = c.note_fall-fell.new.order } in
    let back : CameHome g.D.Device.shows c.self.inside t (Undoes value.0) c.args.grip (dropped_entries c.slip-slip.result) =
    dropped_back c.self.inside t value.0 c.args.grip c.slip-slip.result c.come_home-came.result.events c.note_fall-fell.new.history (grip_back c.self.inside c.args.self.now (Undoes value.0) c.args.grip c.self.view_is c.requires.kept value.1 c.come_home-came.ensures.called)
    (record { later = omega (arith, c.max-self-inside.ensures); home = c.come_home-came.ensures.home; new = refl })
    (record {
      falls = record { same = c.slip-slip.ensures; up = refl; died = c.requires.died; events_are = c.come_home-came.ensures.events };
      told = c.note_fall-fell.ensures.history;
      undone = c.push.ensures;
      order = c.note_fall-fell.ensures.order;
    }) in
    let made = back_given c.self.inside t c.args.self.now c.args.moment (Undoes value.0) c.args.grip _
    (entries_made (record { a = Some c.note_fall-fell.result.entry; b = Some (Undid (run_no c.slip-slip.result.maker) c.slip-slip.result.device false); c = None }))
    c.self.view_is c.requires.maker c.max-self-inside.ensures back
    (λ i. c.note_fall-fell.ensures.entry i ∷ Undid (run_no c.slip-slip.result.maker) c.slip-slip.result.device false ∷ []) c.self.invariant in
    record { given = made.given; window = made.window }
