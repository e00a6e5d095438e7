use Rattle.hub_threads.proofs.Prelude.{OpenHub, ap, carried_by, kept_by, slice_get, subst, sym, ◌++◌, ◌+◌, ◌∙◌, ◌≡◌}
use Rattle.hub_threads.proofs.Added.{given_adds}
use Rattle.hub_threads.proofs.Holding.{given_held}
use Rattle.hub_threads.proofs.Passes.{claimed, cleared, run_taken_in}
use Rattle.hub_threads.proofs.held.HeldStepsGripDone.give.Goals as goal

pub unreachable-requires : goal.unreachable-requires
unreachable-requires g c =
    let out = ap (λ o. slice_get o c.args.grip.slip.device.0) (sym c.self.invariant.out) ∙ claimed g.N.Name.desk (carried_by c.args.grip) c.args.pass c.self.inside.desk.out c.requires.pass.0 c.come_home.ensures.was in
    run_taken_in c.self.inside.hub c.give.new.self c.args.grip c.args.moment c.in-Err.field-0 c.in-Err.ensures.given out c.requires.pass.1

pub invariant_of-self : goal.invariant_of-self
invariant_of-self g c =
    given_held g.D.Device.shows g.N.Name.window g.N.Name.desk c.self.inside.hub c.give.new.self c.args.grip c.args.moment c.in-Ok.made _ _ _ _ c.self.inside.desk
    c.come_home.new.self c.self.invariant c.in-Ok.ensures.given c.in-Ok.ensures.window c.requires.plan c.requires.moment
    (c.add.ensures.total ∙ ap (λ n. c.self.inside.book.total + n) c.count.ensures) c.call.ensures.blocked
    c.come_home.ensures.name (cleared g.N.Name.desk (carried_by c.args.grip) c.args.pass c.self.inside.desk.out c.come_home.new.self.out c.requires.pass.0 c.come_home.ensures.out)

pub returns-clause-appended : goal.returns-clause-appended
returns-clause-appended g c = subst (λ (s : OpenHub _). c.give.new.self.history ≡ s.history ++ kept_by c.args.grip.slip.maker c.in-Ok.made) c.self.view_is (given_adds c.self.inside.hub c.give.new.self c.args.grip c.args.moment c.in-Ok.made c.in-Ok.ensures.given).history
