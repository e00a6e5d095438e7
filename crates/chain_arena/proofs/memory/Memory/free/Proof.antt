-- `free` gives the values up as mere room, and the room with the right to free it back to the allocator.
use Rattle.chain_arena.proofs.Prelude.{ !, Clauses, El, Ended, Env, Fn, Fun, Gives, Gives-Gives, Gives-goes, Goes-dropped, Incl-trans, Logic, Meets, Memory, P, RefOf, Routine, SProp, Stays, T, Tables, Triple, Ura, Val, WT, WpFn, WpFn-mono, after, align, align-raw, align_word, all_room, alloc_all, and_then, args, at_gives, at_ret, await, bin, block_ptr, blocks, calls_at_last, capped, capped_fits, capped_is, closing, done, drop, elτ, ends_at, ent, enter, entered, env, exec, fact, feq_i, feq_l, first, fjoin, fld, flft, flt_l, fm_of, free_all, froom, fsplit, fsplit3, ftrue, get, get_in, given, gives_key, has_ty, heard, id⊢, inst_fn, join, keep, lands_last, later, learn, look_at, move, no, no_more, nothing, of_opd, owns, pass_all, plain, qed, raw, returns, rewrite, sets, size-raw, size_word, split, stay_dropped, stop, sub, suffices, sz, tables, times_capped, token, triple_of, ty_array, ty_unit, types_at, unit_lit, use1, use2, use3, usize, vint, vptr, vunit, w64, walk_Meets, walk_of, whole, wider, yes, ‵, ◌$◌, ◌*◌, ◌++◌, ◌<◌, ◌^◌, ◌∵◌, ◌⊑◌, ◌⊛◌}
use Prim.Native.Nat.{ℕ}
use Rattle.chain_arena.proofs.Opened.{Held, Mr, count}
use Rattle.chain_arena.proofs.memory.Memory.free.Code as code
use Rattle.chain_arena.proofs.memory.Memory.free.Statement as stated
use Rattle.chain_arena.specs.contracts.memory.Memory.free as F
use Rattle.chain_arena.specs.contracts.memory.Memory.free.Key as key
use contract.Running.{tables_of}
use mathlib.Core.List.{List, [], ◌∷◌}
use mathlib.Core.Path.{ap, refl, subst, sym, ◌∙◌, ◌≡◌}
use native.Mathlib.Omega.{arith}
use Rattle.chain_arena.proofs.Opened.{taken, word}
use mir.Raw.{raw as bare}
use types.ByLocal.{is as equals}

module _ (E : El) where
  abbrev here : Fn
  here = inst_fn (args E) code.function

  abbrev ended : Ended
  ended = F.ended E.row E.al.row E.al.g E.al.d E.al.drops

  abbrev stayed : Stays ended.signature.params ended.kept
  stayed = (stay_dropped (plain (λ _. Mr E)) no, (stay_dropped (RefOf (0 ∷ []) tt (plain (λ _. P E)) (λ _. tt)) yes, (stay_dropped (plain (λ _. usize)) yes, tt)))

  module _ {M : Type 1} {𝓤 : Ura M} (𝓛 : Logic 𝓤) (at_mem : Memory → SProp 𝓤) (run : Routine → Fun 𝓤) (𝓣 : Tables 𝓤 𝓛.H)
      (gives : Triple 𝓤 (𝓣.C (gives_key E.al)) (Gives E.al 𝓛 at_mem run)) where
    open 𝓛 use {H}

    abbrev clauses : Clauses 𝓤 ended
    clauses = F.clauses E.row E.al.row E.al.g E.al.d E.al.drops 𝓛 at_mem run

    abbrev Bound : Type 0
    Bound = (walk_of 𝓛 ended stayed clauses).Ghost

    abbrev Goes : Bound → Type 1
    Goes z = ent 𝓤 ((walk_of 𝓛 ended stayed clauses).pre z) (WpFn 𝓤 H 𝓣.C 𝓣.Λ here ((walk_of 𝓛 ended stayed clauses).args z) ((walk_of 𝓛 ended stayed clauses).post z))

    walk : (z : Bound) → Goes z
    walk z =
        let κ = z.0.0.0 in let κT = z.0.0.1.0 in let κA = z.0.0.1.1.0 in let q = z.0.1.0 in let qT = z.0.1.1.0 in let qA = z.0.1.1.1.0 in
        let m : Held E = z.0.3.0 in let hp = z.0.3.1.0.ref_ptr in let a = z.0.3.1.0.now in let r : ℕ = z.0.3.1.1.0 in let vss = z.0.4 in
        let Post : Val → SProp 𝓤 = (walk_of 𝓛 ended stayed clauses).post z in
        let Asked : Type 0 = (r ≡ m.room) × (a ≡ m.alloc) in
        let s : ℕ = sz E in let c : ℕ = m.room in let τ = elτ E in let al : ℕ = capped (align τ) in
        qed 𝓛 (((‵ (flft κ q) ⊛ ‵ (flft κT qT) ⊛ ‵ (flft κA qA) ⊛ ‵ ftrue) ⊛ ‵ (owns (types_at ended.signature.params z.0.0) z.0.3 vss))
        ∷ (raw (fact 𝓤 (κT ⊑ E.row.lives)) ⊛ raw (fact 𝓤 (κA ⊑ E.al.row.lives)) ⊛ raw (fact 𝓤 Asked)) ∷ []) ∵
        move ! (1 ∷ []) $ split ! $ drop ! $ split ! $ heard ! (κA ⊑ E.al.row.lives) (λ lives. heard ! Asked (λ asked.
        split ! $ split ! $ move ! (2 ∷ []) $ fsplit3 ! $ taken E ! m vss.0 (λ b o at is few fit.
        let small : r * s < 2 ^ 63 = subst (λ (k : ℕ). k * s < 2 ^ 63) (sym asked.0) fit in let fits : r * s < 2 ^ 64 = wider (r * s) small in
        use2 𝓛 (‵ (froom (ty_array τ c) b o)) (all_room E 𝓛 b o (count E m) c m.items (omega (arith, few))) $
        rewrite ! 0 (λ (k : ℕ). ‵ (froom (ty_array τ k) b o)) (sym asked.0) refl $ use1 𝓛 (‵ (froom (bare (ty_array τ r)) b o)) (𝓛.laws.room-raw (ty_array τ r) b o) $
        rewrite ! 1 (λ (k : ℕ). ‵ (token E.al m.alloc (bare (ty_array τ k)) (block_ptr b o))) (sym asked.0) refl $ rewrite ! 1 (λ (x : E.al.row.Denot). ‵ (token E.al x (bare (ty_array τ r)) (block_ptr b o))) (sym asked.1) refl $
        move ! (2 ∷ []) $ fsplit ! $ feq_l ! (λ e₁. move ! (3 ∷ []) $ fsplit ! $ fsplit ! $ feq_l ! (λ e₂. flt_l ! (λ fr. keep ! (2 ∷ 3 ∷ 1 ∷ 4 ∷ 5 ∷ []) $
        -- [the room; the right to free it; the `&` to the allocator; its token; the other tokens]
        let us : List Val = word (block_ptr b o) ∷ vptr hp.0 hp.1 ∷ vint w64 r ∷ [] in
        let Run : List Val → SProp 𝓤 = λ ws. WpFn 𝓤 H 𝓣.C 𝓣.Λ here ws Post in
        suffices ! (Run us) (subst (λ (ws : List Val). ent 𝓤 (Run us) (Run ws)) (sym (λ k. is k ++ (e₁ k ++ (e₂ k ++ [])))) (id⊢ 𝓤 (Run us))) $
        enter ! 𝓣.C 𝓣.Λ here us Post $ alloc_all ! (λ l. pass_all ! refl ((tt, (tt, (tt, tt))), ((tt, tt), ((tt, record { fits = fr }), tt))) $
        let En : Env 𝓤 H = env here.locals l in
        let y : (Gives E.al 𝓛 at_mem run).Ghost = at_gives E.al 𝓛 at_mem run κ q hp a b o (r * s) al (bare (ty_array τ r)) in
        sets ! (of_opd ! (get_in ! (fld ! refl (stop !)) (sub ! 0 refl (whole !)))) refl (tt, tt) $ first ! $ blocks ! $ sets ! (of_opd ! (get ! refl)) refl (tt, tt) $
        sets ! (equals ! (bin ! (get ! refl) (size_word !) (record { fits = subst (λ (k : ℕ). k < 2 ^ 64) (sym (times_capped r s small)) fits })) (ap (vint w64) (times_capped r s small))) refl (tt, record { fits = fits }) $
        move ! (2 ∷ 3 ∷ []) $ join ! $ move ! (1 ∷ 2 ∷ 0 ∷ []) $ use3 𝓛 (raw ((Gives E.al 𝓛 at_mem run).pre y))
        (Gives-goes E.al 𝓛 at_mem run κ q hp a (Incl-trans z.0.2.0 lives) b o (r * s) al (bare (ty_array τ r)) (ap capped (size-raw (ty_array τ r)) ∙ capped_is (r * s) fits) (ap capped (align-raw τ)) fits (capped_fits (align τ))) $
        calls_at_last ! (fm_of 𝓤 H 𝓛.laws 𝓣) (Gives E.al 𝓛 at_mem run) gives y (and_then ! (get ! refl) (and_then ! (get ! refl) (and_then ! (get ! refl) (and_then ! (align_word !) (no_more !))))) (λ v.
        use1 𝓛 (later (given (v ≡ vunit) (‵ (flft κ q)))) (Gives-Gives E.al 𝓛 at_mem run κ q hp a b o (r * s) al (bare (ty_array τ r)) v) $ await ! tt $ learn ! (λ e.
        lands_last ! refl (subst (λ (u : Val). T (has_ty ty_unit u) × WT u) (sym e) (tt, tt)) $ exec ! 𝓣.C 𝓣.Λ En (after 2 here.body) (at_ret En Post) $
        sets ! (of_opd ! (unit_lit !)) refl (tt, tt) $ returns ! (look_at ! 0 refl) $ free_all ! refl $
        suffices ! _ (ends_at 𝓛 ended stayed clauses z vunit tt (tt, (tt, (tt, tt))) (tt, (tt, (tt, tt)))) $
        join ! $ feq_i ! (List Val) (vunit ∷ []) (vunit ∷ []) refl $ nothing ! $ nothing ! $ fjoin ! $ nothing ! $ fjoin ! $ nothing ! $ fjoin ! $ join ! $ move ! (1 ∷ 0 ∷ []) $ join ! $
        nothing ! $ keep ! (1 ∷ 0 ∷ []) $ done !)))))))))

    meets : Meets 𝓛 ended.signature (WpFn 𝓤 H 𝓣.C 𝓣.Λ here) (closing 𝓛 ended clauses)
    meets =
        walk_Meets 𝓛 ended stayed (Goes-dropped 𝓛 3 (plain (λ _. Mr E)) no (λ κs x f. refl), (Goes-dropped 𝓛 3 (RefOf (0 ∷ []) tt (plain (λ _. P E)) (λ _. tt)) yes (λ κs x f. refl), (Goes-dropped 𝓛 3 (plain (λ _. usize)) yes (λ κs x f. refl), tt))) clauses
        (WpFn 𝓤 H 𝓣.C 𝓣.Λ here) (WpFn-mono 𝓤 H 𝓛.laws 𝓣 here) walk

pub free_spec : {M : Type 1} → stated.statement M
unfolding tables_of
free_spec 𝓤 𝓛 𝓜 𝓡 wired X Y LX LY g d dd met md =
    let E : El = record { row = X; laws = LX; al = record { row = Y; laws = LY; g = g; d = d; drops = dd } } in
    let 𝓣 : Tables 𝓤 𝓛.H = tables_of 𝓤 𝓛.H 𝓜 (tables 𝓤 𝓛.H 𝓜 𝓡 𝓡.env) in
    entered 𝓤 𝓛.H (triple_of 𝓛 (ended E).signature (F.spec X Y g d dd 𝓛 𝓜.mem 𝓡.returns)) 𝓣.C 𝓣.Λ (key.name (args E)) (here E) (code.unfolded 𝓤 𝓛.H 𝓜 𝓡 wired (X, (Y, tt)) d dd)
    (meets E 𝓛 𝓜.mem 𝓡.returns 𝓣 (met.deallocate dd))
