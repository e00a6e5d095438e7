-- `get` hands on the `&` to one value that a `&` to the block shows.
use Rattle.chain_arena.proofs.Prelude.{ !, Array, Clauses, El, Ended, Env, Fn, Fun, Goes-dropped, Lft, Logic, Meets, Memory, P, R, RattleType, RefOf, Routine, SProp, Stays, Tables, Ura, Val, WpFn, WpFn-mono, addr, after, alloc_all, args, at_ret, bin, blocks, closing, done, drop, each_shared, ends_at, ent, enter, entered, env, exec, fact, feq_i, feq_l, fhide, first, fjoin, fld, flft, flt_l, frame, free_all, fsplit, fsplit3, fst∗, ftrue, get, get_or, hd, heard, hidden_shr, id⊢, in_a_block, inst_fn, join, keep, lent_at, lent_out, load, look, look_at, mem, move, never, nothing, of_opd, one_below, owns, pass_all, place, place_is, plain, qed, raw, returns, rewrite, says, sem, sets, sets_last, shared_of, size_lit, slice_get-get_or, snd∗, split, stay_dropped, stop, suffices, sz, tables, through, times_below, triple_of, types_at, use1, usize, via, vint, vptr, w64, walk_Meets, walk_of, wider, yes, ‵, ◌$◌, ◌*◌, ◌++◌, ◌<◌, ◌^◌, ◌∵◌, ◌⊑◌, ◌⊛◌}
use Prim.Native.Nat.{◌+◌, ℕ}
use Rattle.chain_arena.proofs.Opened.{Held, Mr, count}
use Rattle.chain_arena.proofs.memory.Memory.get.Code as code
use Rattle.chain_arena.proofs.memory.Memory.get.Statement as stated
use Rattle.chain_arena.specs.contracts.memory.Memory.get as F
use Rattle.chain_arena.specs.contracts.memory.Memory.get.Key as key
use contract.Running.{tables_of}
use lib.ListN.{length}
use mathlib.Core.List.{List, [], ◌∷◌}
use mathlib.Core.Path.{refl, subst, sym}
use native.Mathlib.Omega.{arith}
use Prim.Native.Nat.{suc, zero}
use Rattle.chain_arena.proofs.Opened.{Words}
use Rattle.chain_arena.specs.contracts.memory.Memory as C
use Rattle.core.proofs.slots.Lent.{pointer_in, pointer_out}
use Rattle.core.specs.contracts.marker.PhantomData as Ph
use denote.Opens.{hide, unhide}

module _ (R : RattleType) {M : Type 1} {𝓤 : Ura M} (𝓛 : Logic 𝓤) (κ : Lft) (b : ℕ) where
  abbrev bytes : ℕ
  bytes = (mem R).size

  one_shown : (xs : List R.Denot) (i o : ℕ) (d : R.Denot) → i < length xs → ent 𝓤 (sem 𝓛 (each_shared xs (shared_of R) bytes b o κ)) (sem 𝓛 (shared_of R (get_or xs i d) b (place bytes o i) κ))
  one_shown [] i o d lt = absurd (omega (arith, lt))
  one_shown (x ∷ xs) zero o d lt = fst∗ 𝓤 (sem 𝓛 (shared_of R x b o κ)) (sem 𝓛 (each_shared xs (shared_of R) bytes b (o + bytes) κ))
  one_shown (x ∷ xs) (suc i) o d lt = via 𝓤 (sem 𝓛 (each_shared xs (shared_of R) bytes b (o + bytes) κ)) (snd∗ 𝓤 (sem 𝓛 (shared_of R x b o κ)) (sem 𝓛 (each_shared xs (shared_of R) bytes b (o + bytes) κ))) (one_shown xs i (o + bytes) d (omega (arith, lt)))

module _ (E : El) where
  abbrev here : Fn
  here = inst_fn (args E) code.function

  abbrev ended : Ended
  ended = F.ended E.row E.al.row E.al.g E.al.d E.al.drops

  abbrev stayed : Stays ended.signature.params ended.kept
  stayed = (stay_dropped (RefOf (0 ∷ []) tt (plain (λ _. Mr E)) (λ _. tt)) yes, (stay_dropped (plain (λ _. usize)) yes, tt))

  module _ {M : Type 1} {𝓤 : Ura M} (𝓛 : Logic 𝓤) (at_mem : Memory → SProp 𝓤) (run : Routine → Fun 𝓤) (𝓣 : Tables 𝓤 𝓛.H) where
    open 𝓛 use {H}

    abbrev clauses : Clauses 𝓤 ended
    clauses = F.clauses E.row E.al.row E.al.g E.al.d E.al.drops 𝓛 at_mem run

    abbrev Bound : Type 0
    Bound = (walk_of 𝓛 ended stayed clauses).Ghost

    abbrev Goes : Bound → Type 1
    Goes z = ent 𝓤 ((walk_of 𝓛 ended stayed clauses).pre z) (WpFn 𝓤 H 𝓣.C 𝓣.Λ here ((walk_of 𝓛 ended stayed clauses).args z) ((walk_of 𝓛 ended stayed clauses).post z))

    walk : (z : Bound) → Goes z
    walk z =
        let κ = z.0.0.0 in let κT = z.0.0.1.0 in let κA = z.0.0.1.1.0 in let q = z.0.1.0 in let qT = z.0.1.1.0 in let qA = z.0.1.1.1.0 in
        let rb = z.0.3.0.ref_ptr.0 in let ro = z.0.3.0.ref_ptr.1 in let m : Held E = z.0.3.0.now in let i : ℕ = z.0.3.1.0 in let vss = z.0.4 in
        let Post : Val → SProp 𝓤 = (walk_of 𝓛 ended stayed clauses).post z in
        let Asked : Type 0 = i < length m.items in
        let s : ℕ = sz E in let c : ℕ = m.room in
        qed 𝓛 (((‵ (flft κ q) ⊛ ‵ (flft κT qT) ⊛ ‵ (flft κA qA) ⊛ ‵ ftrue) ⊛ ‵ (owns (types_at ended.signature.params z.0.0) z.0.3 vss))
        ∷ (raw (fact 𝓤 (κT ⊑ E.row.lives)) ⊛ raw (fact 𝓤 (κA ⊑ E.al.row.lives)) ⊛ raw (fact 𝓤 Asked)) ∷ []) ∵
        move ! (1 ∷ []) $ split ! $ drop ! $ split ! $ drop ! $ heard ! Asked (λ asked.
        split ! $ split ! $ move ! (2 ∷ []) $ fsplit3 ! $ fsplit ! $ feq_l ! (λ e₀. move ! (1 ∷ []) $ fsplit ! $ feq_l ! (λ e₁. flt_l ! (λ fi.
        keep ! (0 ∷ 2 ∷ 3 ∷ []) $
        -- [the `&`; its token; the other tokens]
        use1 𝓛 (‵ (hidden_shr (Words E) κ (m.base, (tt, tt)) rb ro) ⊛ ‵ (fhide (C.the_lent (R E) (P E) E.al.g m m.base κ)))
        (lent_out 𝓛 (C.struct (R E) (P E) E.al.g) (C.the_codes E.row.Denot E.al.row.Denot (R E).coded (P E).coded (Ph.the_row (P E)).coded) (C.the_heap (R E) (P E) E.al.g) (C.the_lent (R E) (P E) E.al.g) κ m rb ro) $ split ! $
        unhide ! $ fsplit ! $ fsplit ! $ hide ! $ keep ! (0 ∷ 3 ∷ 4 ∷ 5 ∷ []) $ move ! (1 ∷ []) $ unhide ! $ fsplit ! $ flt_l ! (λ few. fsplit ! $ flt_l ! (λ fit.
        in_a_block ! m.base (λ p. lent_at (Array (R E) (count E m)) p m.items κ) (fst∗ 𝓤 (never 𝓤) (sem 𝓛 (shared_of (Array (R E) (count E m)) m.items 0 0 κ))) (λ b o at.
        let d = hd m.items (omega (arith, asked)) in let x = get_or m.items i d in
        let tiny : s < 2 ^ 64 = wider s (one_below c s (2 ^ 63) (omega (arith, asked, few)) fit) in
        let near : i * s < 2 ^ 64 = wider (i * s) (times_below i c s (2 ^ 63) (omega (arith, asked, few)) fit) in
        fsplit ! $ drop ! $ fsplit ! $ drop ! $ use1 𝓛 (‵ (shared_of (R E) x b (place s o i) κ)) (one_shown (R E) 𝓛 κ b m.items i o d asked) $
        rewrite ! 0 (λ (k : ℕ). ‵ (shared_of (R E) x b k κ)) (place_is s o i) refl $ hide ! $ keep ! (1 ∷ 2 ∷ 3 ∷ 0 ∷ []) $
        -- [a `&` to the pointer; its token; the other tokens; a `&` to the value]
        let us : List Val = vptr rb ro ∷ vint w64 i ∷ [] in
        let Run : List Val → SProp 𝓤 = λ ws. WpFn 𝓤 H 𝓣.C 𝓣.Λ here ws Post in
        suffices ! (Run us) (subst (λ (ws : List Val). ent 𝓤 (Run us) (Run ws)) (sym (λ k. e₀ k ++ (e₁ k ++ []))) (id⊢ 𝓤 (Run us))) $
        enter ! 𝓣.C 𝓣.Λ here us Post $ alloc_all ! (λ l. pass_all ! refl ((tt, tt), ((tt, record { fits = fi }), tt)) $
        let En : Env 𝓤 H = env here.locals l in
        first ! $ blocks ! $ pointer_in ! tt m.base b o at rb (ro + 0) (λ q'.
        sets ! (of_opd ! (load ! (through ! refl (fld ! refl (stop !))) (look ! 0 refl))) refl (tt, tt) $ pointer_out ! tt m.base b o at rb (ro + 0) $
        sets ! (bin ! (get ! refl) (size_lit ! (record { fits = tiny })) (record { fits = near })) refl (tt, record { fits = near }) $
        sets ! (bin ! (get ! refl) (get ! refl) tt) refl (tt, tt) $ sets_last ! (addr ! (through ! refl (stop !))) refl (tt, tt) $
        exec ! 𝓣.C 𝓣.Λ En (after 1 here.body) (at_ret En Post) $ sets ! (of_opd ! (get ! refl)) refl (tt, tt) $
        returns ! (look_at ! 0 refl) $ free_all ! refl $
        suffices ! _ (ends_at 𝓛 ended stayed clauses z (vptr b (i * s + o)) (record { ref_ptr = (b, i * s + o); now = x }) (tt, (tt, tt)) (tt, (tt, tt))) $ says ! (slice_get-get_or m.items i d asked) $
        join ! $ frame ! $ feq_i ! (List Val) (vptr b (i * s + o) ∷ []) (vptr b (i * s + o) ∷ []) refl $ fjoin ! $
        nothing ! $ nothing ! $ fjoin ! $ nothing ! $ fjoin ! $ done !)))))))))

    meets : Meets 𝓛 ended.signature (WpFn 𝓤 H 𝓣.C 𝓣.Λ here) (closing 𝓛 ended clauses)
    meets =
        walk_Meets 𝓛 ended stayed (Goes-dropped 𝓛 3 (RefOf (0 ∷ []) tt (plain (λ _. Mr E)) (λ _. tt)) yes (λ κs x f. refl), (Goes-dropped 𝓛 3 (plain (λ _. usize)) yes (λ κs x f. refl), tt)) clauses
        (WpFn 𝓤 H 𝓣.C 𝓣.Λ here) (WpFn-mono 𝓤 H 𝓛.laws 𝓣 here) walk

pub get_spec : {M : Type 1} → stated.statement M
unfolding tables_of
get_spec 𝓤 𝓛 𝓜 𝓡 wired X Y LX LY g d dd met md =
    let E : El = record { row = X; laws = LX; al = record { row = Y; laws = LY; g = g; d = d; drops = dd } } in
    let 𝓣 : Tables 𝓤 𝓛.H = tables_of 𝓤 𝓛.H 𝓜 (tables 𝓤 𝓛.H 𝓜 𝓡 𝓡.env) in
    entered 𝓤 𝓛.H (triple_of 𝓛 (ended E).signature (F.spec X Y g d dd 𝓛 𝓜.mem 𝓡.returns)) 𝓣.C 𝓣.Λ (key.name (args E)) (here E) (code.unfolded 𝓤 𝓛.H 𝓜 𝓡 wired (X, (Y, tt)) d dd)
    (meets E 𝓛 𝓜.mem 𝓡.returns 𝓣)
