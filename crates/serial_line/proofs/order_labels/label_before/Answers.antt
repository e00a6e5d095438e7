use Rattle.serial_line.proofs.Labels.{before_at, before_first}
use Rattle.serial_line.proofs.order_labels.label_before.Goals as goal
use Rattle.serial_line.proofs.Prelude.{ap, arith, label_before, suc, sym, ◌-◌, ◌∙◌, ◌≡◌}

pub returns-then-at-eq0 : goal.returns-then-at-eq0
returns-then-at-eq0 c = before_first 0 c.args.labels.now ∙ ap (λ k. label_before 0 k c.args.labels.now) (sym c.if-at-eq0.true)

pub returns-else-at-eq0 : goal.returns-else-at-eq0
returns-else-at-eq0 c =
    let place = c.requires.place in
    let some = c.if-at-eq0.false in
    let next : suc (c.args.at - 1) ≡ c.args.at = omega (arith, some) in
    before_at 0 c.args.labels.now (c.args.at - 1) 0 (omega (arith, place, next)) ∙ ap (λ k. label_before 0 k c.args.labels.now) next
