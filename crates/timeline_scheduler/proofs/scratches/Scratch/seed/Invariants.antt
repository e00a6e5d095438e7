use Rattle.timeline_scheduler.proofs.Prelude.{seeds, take, vec_capacity, ◌≡◌}
use Rattle.timeline_scheduler.proofs.scratches.Scratch.seed.Given as goal

-- the flags of the items so far
abbrev pub invariant-items : goal.invariant-items
invariant-items l = record {
  flags : l.self-inside.before.items ≡ take l.at (seeds l.s.history l.s.runs l.r.0 l.s.line);
  room : vec_capacity l.self-inside.before ≡ vec_capacity l.initial.self-inside.before;
  slots : l.self-inside.slots ≡ l.initial.self-inside.slots;
  items : l.self-inside.items ≡ l.initial.self-inside.items;
  uses : l.self-inside.uses ≡ l.initial.self-inside.uses;
}
