-- Threads may share the block where they may share its values.
use Rattle.chain_arena.proofs.Prelude.{Array, Ghosts, IsSync, RattleType, RawPtr, array_sync, seen, sendable, shape, struct_sync, the_row, the_type, to}
use Rattle.core.specs.contracts.marker.PhantomData as Ph
use lib.ListN.{length}

pointer : IsSync RawPtr
pointer = search sendable

pub sync : (T A : RattleType) (g : Ghosts A.Denot) → IsSync T → IsSync A → IsSync (the_row T A g)
sync T A g y ya =
    let O = the_type T A g in
    let marker : IsSync (Ph.the_field A).row = search sendable in
    record { shared = λ m b o κ. let n = length m.items in ((struct_sync (shape O) (pointer, (marker, tt))).shared (to O m) b o κ, (tt, (tt, seen (Array T n) (array_sync T n y) m.base m.items κ))) }
