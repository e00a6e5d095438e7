-- What the block ends as, once a `&mut` to one of its values has ended.
use Rattle.std.specs.Prelude.{ℕ, set}
use Rattle.std.specs.Borrow.{Fml, Lends, MutBor, RattleType}
use Rattle.chain_arena.specs.contracts.memory.Memory.{the_row}
use Rattle.chain_arena.specs.declared.memory.Memory.{Memory}
use Rattle.core.specs.declared.alloc.Allocator.{Ghosts}

-- the block with the value number i written
abbrev pub with_written_value : {X A : Type 0} → Memory X A → ℕ → X → Memory X A
with_written_value m i x = record m { items = set m.items i x }

abbrev pub lends_value : (R B : RattleType) → (g : Ghosts B.Denot) → MutBor (Memory R.Denot B.Denot)
    → ℕ → MutBor R.Denot → Fml
lends_value R B g m i r = Lends (the_row R B g) R m r (with_written_value m.now i)
