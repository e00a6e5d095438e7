-- `grow` hands the block to its allocator, and keeps the pointer that comes back.
use Prim.Native.Nat.{◌≤◌, ℕ}
use Rattle.chain_arena.proofs.Opened.{Held, Mr, closed, count, opened}
use Rattle.chain_arena.proofs.memory.Memory.grow.Code as code
use Rattle.chain_arena.proofs.memory.Memory.grow.Statement as stated
use Rattle.chain_arena.specs.contracts.memory.Memory.grow as F
use Rattle.chain_arena.specs.contracts.memory.Memory.grow.Key as key
use Rattle.chain_arena.proofs.Prelude.{ !, Answer, Answer-typed, Body, Bool, Clauses, El, Ended, Env, FitsBlock, Flagged, Fn, Fun, Goes-dropped, Goes-ref, Grows, Incl-trans, Logic, Meets, Memory, P, R, RefOf, Resizes, Resizes-gives, Resizes-goes, Routine, SProp, Stays, T, Tables, Triple, Ura, Val, WT, Wp, WpFn, WpFn-mono, after, after_seq, alloc_all, and_then, any_q, args, arm_body, assigns, at_resizes, at_ret, at_return, await, block_ptr, block_with_items, blocks, by, calls_at_last, closing, done, ends_at, ent, enter, entered, env, ex, exec, fact, false_lit, fbor, feq_i, feq_l, first, fjoin, fjoin3, flagged, fld, flft, flt_l, fm_of, fobs, frame, free_all, front, fsplit, fsplit3, ftrue, get, get_in, get_tag, has_ty, heard, id⊢, if◌then◌else◌, in_variant, inst_fn, join, keep, lands_last, later, left_by, load, look_at, look_in, mem, move, no_more, nothing, of_opd, owns, pass_all, plain, qed, raw, resize_key, returns, rewrite, sets, sets_last, split, split3, stay_dropped, stay_ref, stop, store_in, sub, suffices, switches_on, tables, through, token, triple_of, true_lit, types_at, use1, use2, usize, vbool, vint, vptr, vrt, w64, walk_Meets, walk_of, whole, yes, ‵, ⋆, ◌$◌, ◌++◌, ◌∵◌, ◌⊑◌, ◌⊛◌}
use contract.Running.{tables_of}
use lib.ListN.{length}
use mathlib.Core.List.{List, [], ◌∷◌}
use mathlib.Core.Path.{refl, subst, sym, ◌≡◌}
use native.Mathlib.Omega.{arith}
use Rattle.chain_arena.proofs.Opened.{as_block, of_block}
use Rattle.std_alloc.proofs.VecSteps.Facts.{Says-All, and_fact, last_fact}
use types.SemTy.{Body as Borrowed}
use denote.Param.{layout}
use mathlib.Core.Bool.{false, true}
use types.ByLocal.{is as equals}
use types.Kit.{Post as After}

module _ (E : El) where
  abbrev here : Fn
  here = inst_fn (args E) code.function

  abbrev ended : Ended
  ended = F.ended E.row E.al.row E.al.g E.al.d E.al.drops

  abbrev stayed : Stays ended.signature.params ended.kept
  stayed = (
    stay_ref (0 ∷ []) tt (plain (λ _. Mr E)),
    (stay_dropped (RefOf (1 ∷ []) tt (plain (λ _. P E)) (λ _. tt)) yes, (stay_dropped (plain (λ _. usize)) yes, (stay_dropped (plain (λ _. usize)) yes, (stay_dropped (plain (λ _. usize)) yes, tt)))),
  )

  module _ {M : Type 1} {𝓤 : Ura M} (𝓛 : Logic 𝓤) (at_mem : Memory → SProp 𝓤) (run : Routine → Fun 𝓤) (𝓣 : Tables 𝓤 𝓛.H)
      (resizes : Triple 𝓤 (𝓣.C (resize_key E.al E.row 2)) (Resizes E.al E.row (Grows E.row) 𝓛 at_mem run)) where
    open 𝓛 use {H}

    abbrev clauses : Clauses 𝓤 ended
    clauses = F.clauses E.row E.al.row E.al.g E.al.d E.al.drops 𝓛 at_mem run

    abbrev Bound : Type 0
    Bound = (walk_of 𝓛 ended stayed clauses).Ghost

    abbrev Goes : Bound → Type 1
    Goes z = ent 𝓤 ((walk_of 𝓛 ended stayed clauses).pre z) (WpFn 𝓤 H 𝓣.C 𝓣.Λ here ((walk_of 𝓛 ended stayed clauses).args z) ((walk_of 𝓛 ended stayed clauses).post z))

    exits : (z : Bound) (new : Held E) (r : Bool) → z.0.4.0 ≡ vptr z.0.3.0.ref_ptr.0 z.0.3.0.ref_ptr.1 ∷ [] → (new.items ≡ z.0.3.0.now.items) × (new.room ≡ (if r then z.0.3.1.1.1.1.0 else z.0.3.0.now.room)) × (new.alloc ≡ z.0.3.0.now.alloc)
        → ent 𝓤 (⋆ 𝓛 (‵ (fobs z.0.3.0.ghost_name ((Mr E).coded.code new)) ∷ ‵ (fbor z.0.0.0 (Borrowed (mem (Mr E)) z.0.3.0.ref_ptr.0 z.0.3.0.ref_ptr.1 z.0.3.0.ghost_name)) ∷ ‵ (flft z.0.0.0 z.0.1.0)
        ∷ ‵ (flft z.0.0.1.0 z.0.1.1.0) ∷ ‵ (flft z.0.0.1.1.0 z.0.1.1.1.0) ∷ (‵ (flft z.0.0.1.1.1.0 z.0.1.1.1.1.0) ⊛ ‵ ftrue) ∷ [])) ((walk_of 𝓛 ended stayed clauses).post z (vbool r))
    exits z new r e₀ so =
        let rb = z.0.3.0.ref_ptr.0 in let ro = z.0.3.0.ref_ptr.1 in
        qed 𝓛 (‵ (fobs z.0.3.0.ghost_name ((Mr E).coded.code new)) ∷ ‵ (fbor z.0.0.0 (Borrowed (mem (Mr E)) rb ro z.0.3.0.ghost_name)) ∷ ‵ (flft z.0.0.0 z.0.1.0)
        ∷ ‵ (flft z.0.0.1.0 z.0.1.1.0) ∷ ‵ (flft z.0.0.1.1.0 z.0.1.1.1.0) ∷ (‵ (flft z.0.0.1.1.1.0 z.0.1.1.1.1.0) ⊛ ‵ ftrue) ∷ []) ∵
        suffices ! _ (ends_at 𝓛 ended stayed clauses z (vbool r) r (new, (tt, (tt, (tt, (tt, tt))))) (tt, (tt, (tt, (tt, (tt, tt)))))) $ Says-All ! (and_fact 𝓤 so.0 (and_fact 𝓤 so.1 (last_fact 𝓤 so.2))) $
        move ! (4 ∷ 5 ∷ []) $ join ! $ move ! (4 ∷ 0 ∷ []) $ join ! $ move ! (3 ∷ 0 ∷ []) $ join ! $ frame ! $
        feq_i ! (List Val) z.0.4.0 (vptr rb ro ∷ []) e₀ $ fjoin3 ! $ nothing ! $ nothing ! $ fjoin ! $ nothing ! $ fjoin ! $ nothing ! $ fjoin ! $ nothing ! $ fjoin ! $ move ! (1 ∷ 0 ∷ []) $ fjoin ! $
        feq_i ! (List Val) (vbool r ∷ []) (vbool r ∷ []) refl $ move ! (1 ∷ 0 ∷ []) $ done !

    walk : (z : Bound) → Goes z
    walk z =
        let κ = z.0.0.0 in let ρ = z.0.0.1.0 in let κT = z.0.0.1.1.0 in let κA = z.0.0.1.1.1.0 in let q = z.0.1.0 in let qρ = z.0.1.1.0 in let qT = z.0.1.1.1.0 in let qA = z.0.1.1.1.1.0 in
        let rb = z.0.3.0.ref_ptr.0 in let ro = z.0.3.0.ref_ptr.1 in let m : Held E = z.0.3.0.now in let hp = z.0.3.1.0.ref_ptr in let a = z.0.3.1.0.now in
        let n : ℕ = z.0.3.1.1.0 in let old : ℕ = z.0.3.1.1.1.0 in let more : ℕ = z.0.3.1.1.1.1.0 in let vss = z.0.4 in
        let Post : Val → SProp 𝓤 = (walk_of 𝓛 ended stayed clauses).post z in
        let Counts : Type 0 = (n ≡ length m.items) × (old ≡ m.room) × (a ≡ m.alloc) in let More : Type 0 = (n ≤ old) × (old ≤ more) × FitsBlock (R E) more in
        qed 𝓛 (((‵ (flft κ q) ⊛ ‵ (flft ρ qρ) ⊛ ‵ (flft κT qT) ⊛ ‵ (flft κA qA) ⊛ ‵ ftrue) ⊛ ‵ (owns (types_at ended.signature.params z.0.0) z.0.3 vss))
        ∷ (raw (fact 𝓤 (κT ⊑ E.row.lives)) ⊛ raw (fact 𝓤 (κA ⊑ E.al.row.lives)) ⊛ raw (fact 𝓤 Counts) ⊛ raw (fact 𝓤 More)) ∷ []) ∵
        move ! (1 ∷ []) $ split ! $ heard ! (κT ⊑ E.row.lives) (λ livesT. split ! $ heard ! (κA ⊑ E.al.row.lives) (λ lives. split ! $ heard ! Counts (λ counts. heard ! More (λ grows.
        split ! $ split3 ! $ move ! (2 ∷ []) $ split ! $ move ! (4 ∷ []) $ fsplit3 ! $ fsplit3 ! $ feq_l ! (λ e₀. move ! (2 ∷ []) $ fsplit ! $ feq_l ! (λ e₁. move ! (3 ∷ []) $
        fsplit ! $ fsplit ! $ feq_l ! (λ e₂. flt_l ! (λ fn. fsplit ! $ fsplit ! $ feq_l ! (λ e₃. flt_l ! (λ fo. fsplit ! $ fsplit ! $ feq_l ! (λ e₄. flt_l ! (λ fm. keep ! (2 ∷ 3 ∷ 6 ∷ 1 ∷ 7 ∷ 4 ∷ 5 ∷ []) $
        -- [self, in two entries; its token; the `&` to the allocator; its token; the token of T; that of A]
        let us : List Val = vptr rb ro ∷ vptr hp.0 hp.1 ∷ vint w64 n ∷ vint w64 old ∷ vint w64 more ∷ [] in
        let Run : List Val → SProp 𝓤 = λ ws. WpFn 𝓤 H 𝓣.C 𝓣.Λ here ws Post in
        suffices ! (Run us) (subst (λ (ws : List Val). ent 𝓤 (Run us) (Run ws)) (sym (λ k. e₀ k ++ (e₁ k ++ (e₂ k ++ (e₃ k ++ (e₄ k ++ [])))))) (id⊢ 𝓤 (Run us))) $
        enter ! 𝓣.C 𝓣.Λ here us Post $ alloc_all ! (λ l. pass_all ! refl ((tt, tt), ((tt, tt), ((tt, record { fits = fn }), ((tt, record { fits = fo }), ((tt, record { fits = fm }), tt))))) $
        let En : Env 𝓤 H = env here.locals l in
        let both : Body = front (after 2 here.body) in
        let behind : After 𝓤 H = any_q (after_seq 𝓤 H (Wp 𝓤 H 𝓣.C 𝓣.Λ En (after 3 here.body) (at_return 𝓤 H En Post)) (at_return 𝓤 H En Post)) in
        opened E ! tt m rb ro (λ b o at few fit.
        let RZ = Resizes E.al E.row (Grows E.row) 𝓛 at_mem run in
        let y : RZ.Ghost = at_resizes E.al E.row (Grows E.row) 𝓛 at_mem run ρ κT qρ qT hp a b o n old more m.items in
        let lb = left_by E.al E.row (Grows E.row) 𝓛 at_mem run ρ κT qρ qT hp a b o n old more m.items in
        first ! $ blocks ! $ sets ! (of_opd ! (load ! (through ! refl (fld ! refl (stop !))) (look_in ! 3 (sub ! 0 refl (whole !))))) refl (tt, tt) $
        as_block E ! m.alloc b o (count E m) m.room m.items $
        rewrite ! 0 (λ (k : ℕ). ‵ (block_with_items (token E.al m.alloc) (R E) (block_ptr b o) k m.room m.items)) (sym counts.0) refl $
        rewrite ! 0 (λ (k : ℕ). ‵ (block_with_items (token E.al m.alloc) (R E) (block_ptr b o) n k m.items)) (sym counts.1) refl $
        rewrite ! 0 (λ (x : E.al.row.Denot). ‵ (block_with_items (token E.al x) (R E) (block_ptr b o) n old m.items)) (sym counts.2) refl $
        move ! (6 ∷ 7 ∷ []) $ join ! $ move ! (6 ∷ 0 ∷ []) $ join ! $ move ! (1 ∷ 0 ∷ []) $ use2 𝓛 (raw (RZ.pre y))
        (Resizes-goes E.al E.row (Grows E.row) 𝓛 at_mem run ρ κT qρ qT hp a b o n old more m.items (Incl-trans z.0.2.1.1.0 lives) livesT grows fn fo fm) $
        calls_at_last ! (fm_of 𝓤 H 𝓛.laws 𝓣) RZ resizes y (and_then ! (get ! refl) (and_then ! (get ! refl) (and_then ! (get ! refl) (and_then ! (get ! refl) (and_then ! (get ! refl) (no_more !)))))) (λ v.
        use1 𝓛 (later (raw (ex 𝓤 (Flagged 𝓛 lb v)) ⊛ ‵ (flft ρ qρ) ⊛ ‵ (flft κT qT))) (Resizes-gives E.al E.row (Grows E.row) 𝓛 at_mem run ρ κT qρ qT hp a b o n old more m.items v) $ await ! tt $ split3 ! $
        -- [what came of it; two tokens; the pointer; the open borrow, in three entries; the token of A]
        flagged ! v lb
        (λ b' o' e.
        let new : Held E = record m { base = block_ptr b' o'; room = more } in
        lands_last ! refl (subst (λ (u : Val). T (has_ty (layout Answer) u) × WT u) (sym e) (Answer-typed true b' o')) $ exec ! 𝓣.C 𝓣.Λ En (after 1 here.body) (at_ret En Post) $
        sets ! (equals ! (of_opd ! (get ! refl)) e) refl (Answer-typed true b' o') $
        first ! $ switches_on ! (get_tag ! (vrt ! refl (fld ! refl (stop !))) (whole !)) $ exec ! 𝓣.C 𝓣.Λ En (arm_body 0 both) behind $
        sets ! (of_opd ! (get_in ! (vrt ! refl (fld ! refl (stop !))) (in_variant ! 0 0 refl refl (whole !)))) refl (tt, tt) $
        assigns ! (of_opd ! (get ! refl)) (through ! refl (fld ! refl (stop !))) (store_in ! 3 (sub ! 0 refl (whole !)) (tt, tt)) $
        sets_last ! (of_opd ! (true_lit !)) refl (tt, tt) $ exec ! 𝓣.C 𝓣.Λ En (after 3 here.body) (at_ret En Post) $ sets ! (of_opd ! (get ! refl)) refl (tt, tt) $
        rewrite ! 0 (λ (k : ℕ). ‵ (block_with_items (token E.al a) (R E) (block_ptr b' o') k more m.items)) counts.0 refl $
        rewrite ! 0 (λ (x : E.al.row.Denot). ‵ (block_with_items (token E.al x) (R E) (block_ptr b' o') (count E m) more m.items)) counts.2 refl $
        of_block E ! m.alloc b' o' (count E m) more m.items $ move ! (0 ∷ 1 ∷ 2 ∷ 5 ∷ 6 ∷ 7 ∷ 8 ∷ []) $
        closed E ! tt new b' o' rb ro refl (omega (arith, counts.0, grows.0, grows.1)) grows.2 $ returns ! (look_at ! 0 refl) $ free_all ! refl $ by ! (exits z new true e₀ (refl, refl, refl)))
        (λ e.
        lands_last ! refl (subst (λ (u : Val). T (has_ty (layout Answer) u) × WT u) (sym e) (Answer-typed false 0 0)) $ exec ! 𝓣.C 𝓣.Λ En (after 1 here.body) (at_ret En Post) $
        sets ! (equals ! (of_opd ! (get ! refl)) e) refl (Answer-typed false 0 0) $
        first ! $ switches_on ! (get_tag ! (vrt ! refl (fld ! refl (stop !))) (whole !)) $ exec ! 𝓣.C 𝓣.Λ En (arm_body 1 both) behind $
        sets_last ! (of_opd ! (false_lit !)) refl (tt, tt) $ exec ! 𝓣.C 𝓣.Λ En (after 3 here.body) (at_ret En Post) $ sets ! (of_opd ! (get ! refl)) refl (tt, tt) $
        rewrite ! 0 (λ (k : ℕ). ‵ (block_with_items (token E.al a) (R E) (block_ptr b o) k old m.items)) counts.0 refl $
        rewrite ! 0 (λ (k : ℕ). ‵ (block_with_items (token E.al a) (R E) (block_ptr b o) (count E m) k m.items)) counts.1 refl $
        rewrite ! 0 (λ (x : E.al.row.Denot). ‵ (block_with_items (token E.al x) (R E) (block_ptr b o) (count E m) m.room m.items)) counts.2 refl $
        of_block E ! m.alloc b o (count E m) m.room m.items $ move ! (0 ∷ 1 ∷ 2 ∷ 5 ∷ 6 ∷ 7 ∷ 8 ∷ []) $
        closed E ! tt m b o rb ro at few fit $ returns ! (look_at ! 0 refl) $ free_all ! refl $ by ! (exits z m false e₀ (refl, refl, refl))))))))))))))))))

    meets : Meets 𝓛 ended.signature (WpFn 𝓤 H 𝓣.C 𝓣.Λ here) (closing 𝓛 ended clauses)
    meets =
        let number = Goes-dropped 𝓛 4 (plain (λ _. usize)) yes (λ κs x f. refl) in
        walk_Meets 𝓛 ended stayed (Goes-ref 𝓛 4 0 tt (plain (λ _. Mr E)), (Goes-dropped 𝓛 4 (RefOf (1 ∷ []) tt (plain (λ _. P E)) (λ _. tt)) yes (λ κs x f. refl), (number, (number, (number, tt))))) clauses
        (WpFn 𝓤 H 𝓣.C 𝓣.Λ here) (WpFn-mono 𝓤 H 𝓛.laws 𝓣 here) walk

pub grow_spec : {M : Type 1} → stated.statement M
unfolding tables_of
grow_spec 𝓤 𝓛 𝓜 𝓡 wired X Y LX LY g d dd met md =
    let E : El = record { row = X; laws = LX; al = record { row = Y; laws = LY; g = g; d = d; drops = dd } } in
    let 𝓣 : Tables 𝓤 𝓛.H = tables_of 𝓤 𝓛.H 𝓜 (tables 𝓤 𝓛.H 𝓜 𝓡 𝓡.env) in
    entered 𝓤 𝓛.H (triple_of 𝓛 (ended E).signature (F.spec X Y g d dd 𝓛 𝓜.mem 𝓡.returns)) 𝓣.C 𝓣.Λ (key.name (args E)) (here E) (code.unfolded 𝓤 𝓛.H 𝓜 𝓡 wired (X, (Y, tt)) d dd)
    (meets E 𝓛 𝓜.mem 𝓡.returns 𝓣 (met.grow dd X LX))
