-- What a handle owns beside its own bytes: the block of its state where there is one.
use Rattle.std.specs.Prelude.{ℕ, Option, None, Some}
use base.Fml.{Fml, fex, ftrue}
use denote.RawPtr.{Ptr}
use Rattle.std.specs.Box.Ownership.{box_owns}
use Rattle.std.specs.declared.alloc.Global.{Global}
use Rattle.std.specs.contracts.impls.GlobalAllocator.TheImpl.{ghosts}
use Rattle.home_states.specs.contracts.homes.LiveHome.{the_row}
use Rattle.home_states.specs.LiveHomes.{LiveState}

abbrev pub open_mark : ℕ
open_mark = 0x6c61_7a62_656e_6469

abbrev pub block_owns : Ptr → Option LiveState → Fml
block_owns p None = ftrue
block_owns p (Some s) = fex Global (λ a. box_owns (ghosts.dealloc_token a) the_row p s)
