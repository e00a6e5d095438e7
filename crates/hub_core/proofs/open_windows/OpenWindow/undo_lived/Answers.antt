use Rattle.hub_core.proofs.calls.Homecomings.{back_given, grip_back, may_come}
use Rattle.hub_core.proofs.calls.HubReturns.{undo_place, undo_told, undone_back, undone_value}
use Rattle.hub_core.proofs.calls.ReturnedOrders.{undone_whole}
use Rattle.hub_core.proofs.open_windows.OpenWindow.undo_lived.Goals as goal
use Rattle.hub_core.proofs.Prelude.{Inside, Undoes, arith, progress_at, refl}

pub come_home-requires : goal.come_home-requires
come_home-requires g c = record { may = may_come c.self.inside c.args.self.now c.args.grip c.self.view_is c.requires.kept c.self.invariant }

pub push-requires-clause-room : goal.push-requires-clause-room
push-requires-clause-room g c =
    let value = undone_value (progress_at c.args.self.now.devices c.args.grip.slip.device.0).purpose c.requires.purpose in
    undo_place c.self.inside value.0 c.args.grip (grip_back c.self.inside c.args.self.now (Undoes value.0) c.args.grip c.self.view_is c.requires.kept value.1 c.come_home.ensures.called) c.requires.lives c.self.invariant

pub push-requires-clause-follows : goal.push-requires-clause-follows
push-requires-clause-follows g c =
    let value = undone_value (progress_at c.args.self.now.devices c.args.grip.slip.device.0).purpose c.requires.purpose in
    undo_told c.self.inside value.0 c.args.grip c.slip-slip.result (grip_back c.self.inside c.args.self.now (Undoes value.0) c.args.grip c.self.view_is c.requires.kept value.1 c.come_home.ensures.called) c.slip-slip.ensures c.requires.lives c.self.invariant

pub invariant_of-self : goal.invariant_of-self
invariant_of-self g c =
    let value = undone_value (progress_at c.args.self.now.devices c.args.grip.slip.device.0).purpose c.requires.purpose in
    undone_whole c.self.inside _ value.0 c.args.grip c.slip-slip.result (grip_back c.self.inside c.args.self.now (Undoes value.0) c.args.grip c.self.view_is c.requires.kept value.1 c.come_home.ensures.called)
    (record { later = omega (arith, c.max-self-inside.ensures); home = c.come_home.ensures.home; new = refl }) c.slip-slip.ensures c.requires.lives c.push.ensures refl c.self.invariant

pub returns : goal.returns
returns g c =
    let value = undone_value (progress_at c.args.self.now.devices c.args.grip.slip.device.0).purpose c.requires.purpose in
    let t : Inside g.row.D.Denot = record c.self.inside { history = c.push.new.self; moment = c.max-self-inside.result; checkouts = c.come_home.new.self } in
    let back = undone_back c.self.inside t value.0 c.args.grip c.slip-slip.result (grip_back c.self.inside c.args.self.now (Undoes value.0) c.args.grip c.self.view_is c.requires.kept value.1 c.come_home.ensures.called)
    (record { later = omega (arith, c.max-self-inside.ensures); home = c.come_home.ensures.home; new = refl }) c.slip-slip.ensures c.requires.lives c.push.ensures in
    let made = back_given c.self.inside t c.args.self.now c.args.moment (Undoes value.0) c.args.grip _ c.one_made.result c.self.view_is c.requires.maker c.max-self-inside.ensures back c.one_made.ensures c.self.invariant in
    record { given = made.given; window = made.window }
