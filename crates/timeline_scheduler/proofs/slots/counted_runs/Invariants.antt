use Rattle.timeline_scheduler.proofs.Prelude.{chosen, false, is_counted, items_of, length, slice_index_or, suc, take, ℕ, ◌≡◌}
use Rattle.home_types.specs.Limits.{most_runs}
use Rattle.timeline_scheduler.proofs.slots.counted_runs.Given as goal

-- the runs of the set so far are counted
abbrev pub invariant-items : goal.invariant-items
invariant-items l = record {
  size : length l.counted ≡ suc most_runs;
  counted : (x : ℕ) → slice_index_or l.counted x false ≡ is_counted l.s.history (chosen (take l.at l.before) (take l.at (items_of l.s.line))) x;
}
