use Rattle.timeline_scheduler.proofs.Prelude.{None, drop, get_or, is_on, length, list_any, planned_in_turn, planned_use, true, ℕ, ◌<◌, ◌≡◌}
use Rattle.timeline_scheduler.proofs.PlannedUses.{use_from}
use Rattle.timeline_scheduler.proofs.scratches.Scratch.use_in_turn.Given as goal

-- the uses so far, and with them those of the commands that are left
abbrev pub invariant-commands : goal.invariant-commands
invariant-commands l = record {
  size : length l.self-inside.uses.items ≡ 256;
  each : (d : ℕ) → list_any (is_on d) l.commands ≡ true
      → (d < 256) × (use_from d (get_or l.self-inside.uses.items d None) (planned_in_turn l.clock (drop l.command-index l.commands)) ≡ planned_use (planned_in_turn l.moment l.commands) d);
  slots : l.self-inside.slots ≡ l.initial.self-inside.slots;
  before : l.self-inside.before ≡ l.initial.self-inside.before;
  items : l.self-inside.items ≡ l.initial.self-inside.items;
}
