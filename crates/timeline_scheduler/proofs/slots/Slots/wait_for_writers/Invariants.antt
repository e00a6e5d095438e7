use Rattle.timeline_scheduler.proofs.Prelude.{chosen, fold, items_of, take, waited_item, ◌≡◌}
use Rattle.timeline_scheduler.proofs.slots.Slots.wait_for_writers.Given as goal

-- the items of the set so far are waited for
abbrev pub invariant-items : goal.invariant-items
invariant-items l = l.self ≡ fold (λ ss i. waited_item l.s.table l.s.runs l.r.0 i ss) l.initial.self (chosen (take l.at l.before) (take l.at (items_of l.s.line)))
