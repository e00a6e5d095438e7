use Rattle.home_states.proofs.Numbering.{opened_counted_on}
use Rattle.home_states.proofs.homes.LiveHome.window.Goals as goal
use Rattle.home_states.proofs.Prelude.{Between, InWindow, IsCounted, LiveState, Option, Phase, false, rules, subst, sym, the_view, ◌≡◌}
use Rattle.home_states.specs.declared.homes.ClosedWindow.{ClosedWindow}

pub invariant_of-self : goal.invariant_of-self
invariant_of-self c =
    let s : LiveState = the_view c.self.inside in
    let between : c.self.inside.phase ≡ Between c.in-Between.home = search rules in
    subst (λ (p : Phase). IsCounted (record s { phase = p; is_draft = false; closed = c.remember.new.closed }) c.self.inside.tickets) (sym c.settle.ensures)
    (subst (λ (o : Option ClosedWindow). IsCounted (record s { phase = InWindow c.args.number c.in-Ok.table; is_draft = false; closed = o }) c.self.inside.tickets) (sym c.remember.ensures)
    (opened_counted_on s c.self.inside.tickets c.args.number c.in-Between.home c.in-Ok.table c.self.invariant between c.in-Ok.ensures.opened c.in-Ok.ensures.own c.in-Ok.ensures.numbers))
