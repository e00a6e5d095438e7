-- What a block ends as, once a `&mut` to one of its values has ended.
use Rattle.chain_arena.specs.Blocks.{Placed}
use Rattle.chain_arena.specs.contracts.block.Block.{the_row}
use Rattle.std.specs.Borrow.{Fml, Lends, MutBor, RattleType}
use Rattle.std.specs.Prelude.{ℕ, slice_set}

-- the block with x in the place i
abbrev pub with_block_item : {X : Type 0} → Placed X → ℕ → X → Placed X
with_block_item b i x = record b { items = slice_set b.items i x }

abbrev pub lends_place : (R : RattleType) → MutBor (Placed R.Denot) → ℕ → MutBor R.Denot → Fml
lends_place R b i r = Lends (the_row R) R b r (with_block_item b.now i)
