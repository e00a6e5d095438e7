use Rattle.serial_line.proofs.Once.{place_is, place_unfound}
use Rattle.serial_line.proofs.lines.Line.search.Goals as goal
use Rattle.serial_line.proofs.Prelude.{None, ap, arith, drop, is_item, last_place, length, rules, subst, sym, ◌-◌, ◌<◌, ◌∙◌, ◌≡◌, ◌≤◌}

pub returns-then-is : goal.returns-then-is
returns-then-is c =
    let there = ap (λ m. is_item c.args.item m.item) (sym c.index.ensures) ∙ sym c.if-is.ensures in
    let some = c.loop-at-test.true in
    let upto : c.loop-at.at ≤ length c.self.inside.entries.items = c.loop-at.invariant.0 in
    let within : c.loop-at.at - 1 < length c.self.inside.entries.items = omega (arith, some, upto) in
    rw (← c.self.view_is) (sym (place_is c.args.item c.self.inside.entries.items (c.loop-at.at - 1) c.index.result.now c.self.invariant.once within there))

pub returns : goal.returns
returns c =
    let start : c.loop-at.at ≡ 0 = search rules in
    rw (← c.self.view_is) (sym (place_unfound c.args.item c.self.inside.entries.items (subst (λ k. last_place (λ m. is_item c.args.item m.item) (drop k c.self.inside.entries.items) ≡ None) start c.loop-at.invariant.1)))
