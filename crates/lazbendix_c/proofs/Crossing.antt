-- A home's block may go to another thread, since its state and its allocator may.
use Rattle.lazbendix_c.proofs.Prelude.{AllSend, Global, IsSend, LiveState, None, Option, Ptr, Some, block_owns, block_ptr, box_owns, exits_of, fields, ghosts, lone, null_ptr, owning_send, part_keyless, sendable, shape, struct_send, the_row, to}
use Rattle.lazbendix_c.specs.contracts.handles.HomeBlock as home_block
use Rattle.std.proofs.Crossing.{frees}
use Rattle.std_alloc.proofs.SendSync.{quiet}
use base.Fraction.{full_share}
use base.Shift.{Keyless}
use mir.Raw.{raw}

block_keyless : IsSend the_row → (a : Global) (p : Ptr) (x : LiveState) → Keyless (box_owns (ghosts.dealloc_token a) the_row p x)
block_keyless s a (block_ptr b o) x = (part_keyless the_row s full_share x b o, frees.frees a (raw (lone the_row.mir)) (block_ptr b o))
block_keyless s a null_ptr x = (tt, frees.frees a (raw (lone the_row.mir)) null_ptr)

owned_keyless : IsSend the_row → (at : Ptr) (state : Option LiveState) → Keyless (block_owns at state)
owned_keyless s at None = tt
owned_keyless s at (Some x) = λ a. block_keyless s a at x

pub block_send : IsSend the_row → IsSend home_block.the_row
block_send s =
    let O = home_block.the_type in let all : AllSend (fields O) = (search sendable, tt) in
    owning_send O all (λ d. owned_keyless s d.at d.state) (λ k. quiet (to O) (exits_of k (fields O)) ((struct_send (shape O) all).leaving k))
