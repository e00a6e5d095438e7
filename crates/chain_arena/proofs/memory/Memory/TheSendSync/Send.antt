-- The block may go to another thread where its values may.
use Rattle.chain_arena.proofs.Prelude.{AllSend, Array, Frees, Ghosts, IsSend, Ptr, RattleType, RawPtr, Ty, array_send, block_ptr, exits_of, fields, lies, lone, null_ptr, owning_send, quiet, room_for, sendable, shape, struct_send, the_row, the_type, to, ty_array, type_size, ◌*◌, ◌+ₚ◌, ◌-◌}
use Rattle.core.specs.contracts.marker.PhantomData as Ph
use base.Shift.{Keyless}
use lib.ListN.{length}
use mir.Raw.{raw}

-- mere room names no key
room : (τ : Ty) (p : Ptr) → Keyless (room_for τ p)
room τ (block_ptr b o) = tt
room τ null_ptr = tt

pointer : IsSend RawPtr
pointer = search sendable

pub send : (T A : RattleType) (g : Ghosts A.Denot) → IsSend T → IsSend A → Frees g g.dealloc_token → IsSend (the_row T A g)
send T A g s sa f =
    let O = the_type T A g in
    let marker : IsSend (Ph.the_field A).row = search sendable in
    let all : AllSend (fields O) = (pointer, (marker, tt)) in
    owning_send O all
    (λ m. let n = length m.items in (
      tt,
      (tt, (lies (Array T n) (array_send T n s) m.base m.items, (room (raw (ty_array (lone T.mir) (m.room - n))) (m.base +ₚ n * type_size T), f.frees m.alloc (raw (ty_array (lone T.mir) m.room)) m.base))),
    ))
    (λ k. quiet (to O) (exits_of k (fields O)) ((struct_send (shape O) all).leaving k))
