-- What the block and a `&` to it hold, at any type R of values.
use Rattle.std.specs.Prelude.{ℕ, ◌+◌, ◌*◌, ◌^◌, List, length}
use Rattle.core.specs.Allocator.{block_with_items}
use Rattle.core.specs.Mem.{type_size}
use base.Fml.{Fml, Lft, flt, fsep}
use denote.Array.{Array}
use denote.RattleType.{RattleType}
use denote.RawPtr.{Ptr}
use denote.Sharing.{beside, said}
use denote.Struct.Lending.{lent_at}
use mir.Syntax.{Ty}

-- a block at p for so many values, of which the first are xs; `frees` is the right to give it back
abbrev pub block_at : (Ty → Ptr → Fml) → (R : RattleType) → Ptr → ℕ → List R.Denot → Fml
block_at frees R p room xs =
    fsep (flt (length xs) (room + 1))
    (fsep (flt (room * type_size R) (2 ^ 63)) (block_with_items frees R p (length xs) room xs))

-- a `&` to the values of such a block
abbrev pub shared_at : (R : RattleType) → Ptr → ℕ → List R.Denot → Lft → Fml
shared_at R p room xs =
    beside (said (flt (length xs) (room + 1)))
    (beside (said (flt (room * type_size R) (2 ^ 63))) (lent_at (Array R (length xs)) p xs))
