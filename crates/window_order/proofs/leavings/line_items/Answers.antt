use Rattle.home_types.proofs.Cited.{take_snoc}
use Rattle.window_order.proofs.leavings.line_items.Goals as goal
use Rattle.window_order.proofs.Prelude.{[], ap, arith, items_of, length, sym, ◌++◌, ◌<◌, ◌∙◌, ◌∷◌}

pub items-preserved : goal.items-preserved
items-preserved c =
    let before : c.items.at < length c.args.line.now.marks = omega (arith, c.items-test.true, c.items.invariant.end) in
    let roomy : 0 < c.items.items.spare = omega (arith, before, c.items.invariant.room) in
    record {
      items = (rw c.unwrap-in-items.ensures at c.push-pushed.ensures.ok) ∙ ap (λ xs. xs ++ c.unwrap.result ∷ []) c.items.invariant.items ∙ sym (take_snoc (items_of c.args.line.now.marks) c.items.at c.unwrap.result (sym c.get.ensures ∙ c.unwrap.ensures));
      room = omega (arith, c.push-pushed.ensures.used roomy, c.items.invariant.room);
      end = c.items.invariant.end;
    }
