use Rattle.timeline_scheduler.proofs.Prelude.{IsGathered, chosen, drop, items_of, length, meet, vec_capacity, ◌≡◌, ◌≤◌}
use Rattle.timeline_scheduler.proofs.Closing.{IsClosedTo}
use Rattle.timeline_scheduler.proofs.scratches.Scratch.close.Given as goal

-- the items from here on are closed, and those of the set among them gathered
abbrev pub invariant-items : goal.invariant-items
invariant-items l = record {
  within : l.at ≤ length l.s.line;
  closed : IsClosedTo (meet l.s.runs) l.initial.self-inside.before.items (items_of l.s.line) l.self-inside.before.items l.at;
  gathered : IsGathered l.s.runs (chosen (drop l.at l.self-inside.before.items) (drop l.at (items_of l.s.line))) l.gathered;
  room : vec_capacity l.self-inside.before ≡ vec_capacity l.initial.self-inside.before;
  slots : l.self-inside.slots ≡ l.initial.self-inside.slots;
  items : l.self-inside.items ≡ l.initial.self-inside.items;
  uses : l.self-inside.uses ≡ l.initial.self-inside.uses;
}

abbrev pub decreases-items : goal.decreases-items
decreases-items l = l.at
