use Rattle.hub_core.proofs.Prelude.{Inside, None, Some, arith, entries_made, refl}
use Rattle.hub_core.proofs.calls.Homecomings.{may_come}
use Rattle.hub_core.proofs.calls.ProbesFound.{dead_follows, dead_may, fallen_given, fallen_made, fallen_whole, lost_fits}
use Rattle.hub_core.proofs.open_windows.OpenWindow.find_dead.Goals as goal

pub come_home-came-requires : goal.come_home-came-requires
come_home-came-requires g c = record { may = may_come c.self.inside c.args.self.now c.args.grip c.self.view_is c.requires.kept c.self.invariant }

pub note_fall-fell-requires : goal.note_fall-fell-requires
note_fall-fell-requires g c = record {
  may =
      dead_may c.self.inside c.args.self.now c.args.grip c.slip.result c.come_home-came.result.events
      (record { seen = c.self.view_is; there = c.requires.kept; maker = c.requires.maker; called = c.come_home-came.ensures.called; same = c.slip.ensures })
      (record { up = c.requires.up; died = c.requires.died; events_are = c.come_home-came.ensures.events }) c.self.invariant;
  follows =
      dead_follows c.self.inside c.args.self.now c.args.grip c.slip.result c.come_home-came.result.events
      (record { seen = c.self.view_is; there = c.requires.kept; maker = c.requires.maker; called = c.come_home-came.ensures.called; same = c.slip.ensures })
      (record { up = c.requires.up; died = c.requires.died; events_are = c.come_home-came.ensures.events }) c.self.invariant;
}

pub doom_lost-doomed-requires-clause-run : goal.doom_lost-doomed-requires-clause-run
doom_lost-doomed-requires-clause-run g c =
    (lost_fits c.self.inside c.come_home-came.new.self c.args.self.now c.args.grip c.slip.result c.come_home-came.result.events c.note_fall-fell.result.lost
    c.note_fall-fell.new.history
    (record { seen = c.self.view_is; there = c.requires.kept; maker = c.requires.maker; called = c.come_home-came.ensures.called; same = c.slip.ensures })
    (record { up = c.requires.up; died = c.requires.died; events_are = c.come_home-came.ensures.events }) c.note_fall-fell.ensures.lost
    c.note_fall-fell.ensures.history c.come_home-came.ensures.home c.self.invariant).run

pub doom_lost-doomed-requires-clause-room : goal.doom_lost-doomed-requires-clause-room
doom_lost-doomed-requires-clause-room g c =
    (lost_fits c.self.inside c.come_home-came.new.self c.args.self.now c.args.grip c.slip.result c.come_home-came.result.events c.note_fall-fell.result.lost
    c.note_fall-fell.new.history
    (record { seen = c.self.view_is; there = c.requires.kept; maker = c.requires.maker; called = c.come_home-came.ensures.called; same = c.slip.ensures })
    (record { up = c.requires.up; died = c.requires.died; events_are = c.come_home-came.ensures.events }) c.note_fall-fell.ensures.lost
    c.note_fall-fell.ensures.history c.come_home-came.ensures.home c.self.invariant).room

pub doom_lost-doomed-requires-clause-follows : goal.doom_lost-doomed-requires-clause-follows
doom_lost-doomed-requires-clause-follows g c =
    (lost_fits c.self.inside c.come_home-came.new.self c.args.self.now c.args.grip c.slip.result c.come_home-came.result.events c.note_fall-fell.result.lost
    c.note_fall-fell.new.history
    (record { seen = c.self.view_is; there = c.requires.kept; maker = c.requires.maker; called = c.come_home-came.ensures.called; same = c.slip.ensures })
    (record { up = c.requires.up; died = c.requires.died; events_are = c.come_home-came.ensures.events }) c.note_fall-fell.ensures.lost
    c.note_fall-fell.ensures.history c.come_home-came.ensures.home c.self.invariant).follows

pub invariant_of-self : goal.invariant_of-self
invariant_of-self g c =
    fallen_whole c.self.inside _ c.args.self.now c.args.grip c.slip.result c.come_home-came.result.events c.note_fall-fell.result.lost
    c.note_fall-fell.new.history c.note_fall-fell.new.order
    (record { seen = c.self.view_is; there = c.requires.kept; maker = c.requires.maker; called = c.come_home-came.ensures.called; same = c.slip.ensures })
    (record { up = c.requires.up; died = c.requires.died; events_are = c.come_home-came.ensures.events })
    (record { later = omega arith; home = c.come_home-came.ensures.home; new = refl }) (record {
      told = c.note_fall-fell.ensures.history;
      falls = c.note_fall-fell.ensures.order;
      found = c.note_fall-fell.ensures.lost;
      doomed = c.doom_lost-doomed.ensures.history;
      line = c.doom_lost-doomed.ensures.line;
      table = c.doom_lost-doomed.ensures.table;
    }) c.self.invariant

pub returns : goal.returns
returns g c =
    let t : Inside g.row.D.Denot = record c.self.inside { history = c.doom_lost-doomed.new.history; checkouts = c.come_home-came.new.self; order = c.doom_lost-doomed.new.order } in
    let made = fallen_given c.self.inside t c.args.self.now c.args.grip c.slip.result c.come_home-came.result.events c.note_fall-fell.result.lost
    c.note_fall-fell.new.history c.note_fall-fell.new.order (entries_made (record { a = Some c.note_fall-fell.result.entry; b = c.doom_lost-doomed.result; c = None }))
    (record { seen = c.self.view_is; there = c.requires.kept; maker = c.requires.maker; called = c.come_home-came.ensures.called; same = c.slip.ensures })
    (record { up = c.requires.up; died = c.requires.died; events_are = c.come_home-came.ensures.events })
    (record { later = omega arith; home = c.come_home-came.ensures.home; new = refl }) refl (record {
      told = c.note_fall-fell.ensures.history;
      falls = c.note_fall-fell.ensures.order;
      found = c.note_fall-fell.ensures.lost;
      doomed = c.doom_lost-doomed.ensures.history;
      line = c.doom_lost-doomed.ensures.line;
      table = c.doom_lost-doomed.ensures.table;
    }) (fallen_made c.slip.result.device c.note_fall-fell.result.lost c.note_fall-fell.result.entry c.doom_lost-doomed.result c.note_fall-fell.ensures.entry
    c.doom_lost-doomed.ensures.entry) c.self.invariant in
    record { given = made.given; window = made.window }
