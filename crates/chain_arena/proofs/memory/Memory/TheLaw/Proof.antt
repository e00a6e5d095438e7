-- A `&` to the block shows its values.
use Rattle.chain_arena.proofs.Prelude.{Array, Ghosts, Incl-trans, Lends-both, Lends-first, Lends-lies, Lends-said, RattleType, flt, lent_at, meet_⊑_left, of_Lends, type_size, ◌*◌, ◌++◌, ◌^◌}
use Prim.Native.Nat.{◌+◌}
use Rattle.chain_arena.proofs.memory.Memory.TheLaw.Statement.{statement}
use Rattle.chain_arena.specs.contracts.memory.Memory as C
use Rattle.core.specs.contracts.marker.PhantomData as P
use Rattle.std_alloc.proofs.SharedLaws.{lent_shr_laws}
use Rattle.std_alloc.specs.Vec.Ownership.{vec_shares}
use denote.SharingLaws.{beside_shr_laws, said_shr_laws}
use denote.ArrayMemory.{Single}
use denote.Param.Laws.{Laws}
use denote.Param.Shared.{copy_shared}
use denote.Shares.{Shares-Array, Shares-less}
use denote.Sharing.{said}
use denote.Struct.Field.{RawPtr-field}
use denote.Struct.Laws.{RawPtr-copy, field_copy}
use lib.ListN.{length}
use mathlib.Core.List.{[]}
use mathlib.Core.Path.{subst, sym}

pub shares : (R B : RattleType) (g : Ghosts B.Denot) (L : Laws R) (K : Laws B) → statement R B g L K
shares R B g L K = of_Lends (C.struct R B g) (C.the_codes R.Denot B.Denot R.coded B.coded (P.the_row B).coded) (C.the_heap R B g) (C.the_lent R B g)
    (λ m p. let n = length m.items in let few = flt n (m.room + 1) in beside_shr_laws (said few) (vec_shares R m.base n m.room m.items) (said_shr_laws few tt) (lent_shr_laws R L.shr_laws m.base n m.room m.items))
    (copy_shared RawPtr-field RawPtr-copy, (copy_shared (P.the_field B) (field_copy (P.the_type B) tt), tt))
    (λ M 𝓤 𝓛 m p.
    let l = (C.the_row R B g).lives in let n = length m.items in let few = flt n (m.room + 1) in let bound = flt (m.room * type_size R) (2 ^ 63) in
    let inner = Shares-less 𝓛 R R.lives l (Incl-trans (meet_⊑_left (R.lives ++ (B.lives ++ [])) _) (meet_⊑_left R.lives (B.lives ++ []))) (L.shares 𝓛) in
    Lends-both 𝓛 few _ (said few) (vec_shares R m.base n m.room m.items) l (Lends-said 𝓛 few tt l) (Lends-both 𝓛 bound _ (said bound) (lent_at (Array R n) m.base m.items) l (Lends-said 𝓛 bound tt l)
    (Lends-first 𝓛 _ _ (lent_at (Array R n) m.base m.items) l (Lends-lies 𝓛 (Array R n) l m.base m.items (Shares-Array 𝓛 R (subst Single (sym L.one) tt) n l inner m.items)))))
