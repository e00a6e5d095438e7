-- The places of a block that may not have been allocated.
use Rattle.chain_arena.specs.declared.memory.Memory.{Memory}
use Rattle.std.specs.Prelude.{List, None, Option, Some, [], length, ⊤, ℕ, ◌≡◌, ◌≤◌}
use Rattle.std.specs.declared.alloc.Global.{Global}

pub record Placed (X : Type 0) : Type 0 where
  -- what lies in its places, in order
  pub items : List X
  -- for how many there is memory
  pub room : ℕ

module _ {X : Type 0} where
  abbrev pub items_of : Option (Memory X Global) → List X
  items_of None = []
  items_of (Some m) = m.items

  abbrev pub room_of : Option (Memory X Global) → ℕ
  room_of None = 0
  room_of (Some m) = m.room

  abbrev pub IsFrom : Global → Option (Memory X Global) → Type 0
  IsFrom alloc None = ⊤
  IsFrom alloc (Some m) = alloc ≡ m.alloc

  -- the numbers and the allocator beside the memory are its own
  pub record IsBlock (memory : Option (Memory X Global)) (len room : ℕ)
      (alloc : Global) : Type 0 where
    pub counts : len ≡ length (items_of memory)
    pub holds : room ≡ room_of memory
    pub from : IsFrom alloc memory
    pub fits : len ≤ room
