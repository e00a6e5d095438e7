-- The serial order invariant: the four promised clauses of a window whose order is kept.
use Rattle.window_order.proofs.Prelude.{Bool, Grips, IsTrue, OrderIsKept, OrderStands, Reading, Setting, arith, common_steps, live_writes_are_covered, open_runs_are_last, point, true, ℕ, ◌≡◌}
use Rattle.window_order.proofs.PromisedClauses.{live_writes_covered, open_runs_last}
use Rattle.window_order.proofs.ReadFacts.{IsRead}
use Rattle.window_order.proofs.SettledOrders.{settled_agree}

test_holds : (b : Bool) → b ≡ true → IsTrue b
test_holds b e = grind (arith, common_steps)

pub order_stands : (w : Setting) (n : Reading) (g : Grips) (held : ℕ → ℕ) → IsRead w n → OrderIsKept (point w n g) held → OrderStands (point w n g)
order_stands w n g held s o = record {
  settled = settled_agree w n g held s o;
  history = o.history;
  covered = λ d. test_holds (live_writes_are_covered n g d n.line) (live_writes_covered w n g held d s o);
  last = λ d. test_holds (open_runs_are_last (point w n g) d n.line) (open_runs_last w n g held d s o);
}
