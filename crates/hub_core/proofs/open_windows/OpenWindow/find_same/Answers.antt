use Rattle.hub_core.proofs.calls.Homecomings.{may_come}
use Rattle.hub_core.proofs.calls.ProbesFound.{same_given, same_whole}
use Rattle.hub_core.proofs.open_windows.OpenWindow.find_same.Goals as goal
use Rattle.hub_core.proofs.Prelude.{Inside, [], arith, refl}

pub come_home-requires : goal.come_home-requires
come_home-requires g c = record { may = may_come c.self.inside c.args.self.now c.args.grip c.self.view_is c.requires.kept c.self.invariant }

pub invariant_of-self : goal.invariant_of-self
invariant_of-self g c =
    same_whole c.self.inside _ c.args.self.now c.args.grip c.args.grip.slip (record { seen = c.self.view_is; there = c.requires.kept; maker = c.requires.maker; called = c.come_home.ensures.called; same = refl }) c.requires.same
    (record { later = omega arith; home = c.come_home.ensures.home; new = refl }) refl refl c.self.invariant

pub returns : goal.returns
returns g c =
    let t : Inside g.row.D.Denot = record c.self.inside { checkouts = c.come_home.new.self } in
    let made = same_given c.self.inside t c.args.self.now c.args.grip c.args.grip.slip [] (record { seen = c.self.view_is; there = c.requires.kept; maker = c.requires.maker; called = c.come_home.ensures.called; same = refl }) c.requires.same
    (record { later = omega arith; home = c.come_home.ensures.home; new = refl }) refl refl refl c.self.invariant in
    record { given = made.given; window = made.window }
