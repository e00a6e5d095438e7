use Rattle.hub_core.proofs.calls.Homecomings.{may_come}
use Rattle.hub_core.proofs.calls.ProbesFound.{back_follows, back_may, risen_given, risen_whole}
use Rattle.hub_core.proofs.open_windows.OpenWindow.find_back.Goals as goal
use Rattle.hub_core.proofs.Prelude.{Inside, [], ap, arith, refl, ◌∙◌, ◌∷◌}

pub come_home-came-requires : goal.come_home-came-requires
come_home-came-requires g c = record { may = may_come c.self.inside c.args.self.now c.args.grip c.self.view_is c.requires.kept c.self.invariant }

pub note_rise-requires : goal.note_rise-requires
note_rise-requires g c = record {
  may =
      back_may c.self.inside c.args.self.now c.args.grip c.slip.result c.come_home-came.result.events
      (record { seen = c.self.view_is; there = c.requires.kept; maker = c.requires.maker; called = c.come_home-came.ensures.called; same = c.slip.ensures })
      (record { down = c.requires.down; lives = c.requires.lives; events_are = c.come_home-came.ensures.events }) c.self.invariant;
  follows =
      back_follows c.self.inside c.args.self.now c.args.grip c.slip.result c.come_home-came.result.events
      (record { seen = c.self.view_is; there = c.requires.kept; maker = c.requires.maker; called = c.come_home-came.ensures.called; same = c.slip.ensures })
      (record { down = c.requires.down; lives = c.requires.lives; events_are = c.come_home-came.ensures.events }) c.self.invariant;
}

pub invariant_of-self : goal.invariant_of-self
invariant_of-self g c =
    risen_whole c.self.inside _ c.args.self.now c.args.grip c.slip.result c.come_home-came.result.events
    (record { seen = c.self.view_is; there = c.requires.kept; maker = c.requires.maker; called = c.come_home-came.ensures.called; same = c.slip.ensures })
    (record { down = c.requires.down; lives = c.requires.lives; events_are = c.come_home-came.ensures.events })
    (record { later = omega arith; home = c.come_home-came.ensures.home; new = refl }) (record { history = c.note_rise.ensures.history; rises = c.note_rise.ensures.order }) c.self.invariant

pub returns : goal.returns
returns g c =
    let t : Inside g.row.D.Denot = record c.self.inside { history = c.note_rise.new.history; checkouts = c.come_home-came.new.self; order = c.note_rise.new.order } in
    let made = risen_given c.self.inside t c.args.self.now c.args.grip c.slip.result c.come_home-came.result.events c.one_made.result
    (record { seen = c.self.view_is; there = c.requires.kept; maker = c.requires.maker; called = c.come_home-came.ensures.called; same = c.slip.ensures })
    (record { down = c.requires.down; lives = c.requires.lives; events_are = c.come_home-came.ensures.events })
    (record { later = omega arith; home = c.come_home-came.ensures.home; new = refl }) refl (record { history = c.note_rise.ensures.history; rises = c.note_rise.ensures.order }) (c.one_made.ensures ∙ ap (λ e. e ∷ []) c.note_rise.ensures.entry) c.self.invariant in
    record { given = made.given; window = made.window }
