-- `allocate` asks for the room of an array, and has none of its values yet.
use Rattle.chain_arena.proofs.Prelude.{ !, Answer-typed, Answered, Array, Body, Clauses, El, Ended, Env, FitsBlock, Fn, Fun, Goes-dropped, Incl-trans, Logic, Meets, Memory, P, R, RattleType, RefOf, Routine, SProp, Stays, Tables, Takes, Takes-gives, Takes-goes, Triple, Ura, Val, WT, Wp, WpFn, WpFn-mono, after, after_seq, agg, align, align-raw, align_word, alloc_all, and_then, answers, any_q, args, arm_body, as_written, at_ret, at_return, at_takes, await, bin, block_ptr, by, calls_at, capped, capped_fits, capped_is, closing, done, drop, elτ, empty, ends_at, ent, enter, entered, env, exec, fact, feq_l, first, fjoin, fld, flft, flt_l, fm_of, free_all, front, froom, fsplit, fsplit3, ftrue, full_share, get, get_in, get_tag, heard, id⊢, in_variant, inst_fn, join, keep, lands_as, later, lit, lit<, live, look_at, move, no_more, nothing, of_list, of_opd, one_below, owns, part_at, pass_all, plain, qed, raw, returns, room_split, says, sem, sep, sets, sets_last, size-raw, size_lit, split, stay_dropped, stop, suffices, switches_on, sz, tables, takes_key, triple_of, ty_array, types_at, use0, use1, use2, usize, vcons, vint, vnil, vptr, vrt, w64, walk_Meets, walk_of, whole, wider, yes, ‵, ◌$◌, ◌*◌, ◌++◌, ◌-◌, ◌<◌, ◌^◌, ◌∵◌, ◌⊑◌, ◌⊛◌}
use Prim.Native.Nat.{◌+◌, ℕ}
use Rattle.chain_arena.proofs.Opened.{Held, Mr}
use Rattle.chain_arena.proofs.memory.Memory.allocate.Code as code
use Rattle.chain_arena.proofs.memory.Memory.allocate.Statement as stated
use Rattle.chain_arena.specs.contracts.memory.Memory.allocate as F
use Rattle.chain_arena.specs.contracts.memory.Memory.allocate.Key as key
use contract.Running.{tables_of}
use mathlib.Core.Bool.{false, true}
use mathlib.Core.List.{List, [], ◌∷◌}
use mathlib.Core.Path.{ap, refl, subst, sym, ◌∙◌, ◌≡◌}
use native.Mathlib.Omega.{arith}
use Rattle.chain_arena.proofs.Opened.{made, word}
use Rattle.core.specs.contracts.option.Option as OP
use Rattle.core.specs.declared.option.Option.TheVariants.{None, Some}
use Rattle.core.specs.Option.{IfSome}
use Rattle.std_alloc.proofs.VecSteps.Element.{Some-of, none_of}
use denote.Triple.Entry.{alive}
use mir.Raw.{raw as bare}
use types.Kit.{Post as After}

module _ (E : El) where
  abbrev here : Fn
  here = inst_fn (args E) code.function

  abbrev ended : Ended
  ended = F.ended E.row E.al.row E.al.g E.al.d E.al.drops

  abbrev stayed : Stays ended.signature.params ended.kept
  stayed = (stay_dropped (RefOf (0 ∷ []) tt (plain (λ _. P E)) (λ _. tt)) yes, (stay_dropped (plain (λ _. usize)) yes, tt))

  module _ {M : Type 1} {𝓤 : Ura M} (𝓛 : Logic 𝓤) (at_mem : Memory → SProp 𝓤) (run : Routine → Fun 𝓤) (𝓣 : Tables 𝓤 𝓛.H)
      (takes : Triple 𝓤 (𝓣.C (takes_key E.al)) (Takes E.al 𝓛 at_mem run)) where
    open 𝓛 use {H}

    abbrev clauses : Clauses 𝓤 ended
    clauses = F.clauses E.row E.al.row E.al.g E.al.d E.al.drops 𝓛 at_mem run

    abbrev Bound : Type 0
    Bound = (walk_of 𝓛 ended stayed clauses).Ghost

    abbrev Goes : Bound → Type 1
    Goes z = ent 𝓤 ((walk_of 𝓛 ended stayed clauses).pre z) (WpFn 𝓤 H 𝓣.C 𝓣.Λ here ((walk_of 𝓛 ended stayed clauses).args z) ((walk_of 𝓛 ended stayed clauses).post z))

    abbrev Out : RattleType
    Out = OP.the_row (Mr E)

    exits : (z : Bound) (r : Out.Denot) (v : Val) → IfSome r (λ m. (m.items ≡ []) × (m.room ≡ z.0.3.1.0) × (m.alloc ≡ z.0.3.0.now))
        → ent 𝓤 (sep 𝓤 (sem 𝓛 (Out.own_val r (v ∷ []))) (alive 𝓛 ended.signature z.0.0 z.0.1)) ((walk_of 𝓛 ended stayed clauses).post z v)
    exits z r v so =
        qed 𝓛 (‵ (Out.own_val r (v ∷ [])) ∷ raw (alive 𝓛 ended.signature z.0.0 z.0.1) ∷ []) ∵
        suffices ! _ (ends_at 𝓛 ended stayed clauses z v r (tt, (tt, tt)) (tt, (tt, tt))) $ says ! so $ nothing ! $ nothing ! $ fjoin ! $ nothing ! $ fjoin ! $ move ! (2 ∷ 0 ∷ 1 ∷ []) $ done !

    walk : (z : Bound) → Goes z
    walk z =
        let κ = z.0.0.0 in let κT = z.0.0.1.0 in let κA = z.0.0.1.1.0 in let q = z.0.1.0 in let qT = z.0.1.1.0 in let qA = z.0.1.1.1.0 in
        let hp = z.0.3.0.ref_ptr in let a = z.0.3.0.now in let n : ℕ = z.0.3.1.0 in let vss = z.0.4 in
        let Post : Val → SProp 𝓤 = (walk_of 𝓛 ended stayed clauses).post z in
        let Asked : Type 0 = (0 < n) × FitsBlock (R E) n in
        let s : ℕ = sz E in let τ = elτ E in let al : ℕ = capped (align τ) in let ty = bare (ty_array τ n) in
        qed 𝓛 (((‵ (flft κ q) ⊛ ‵ (flft κT qT) ⊛ ‵ (flft κA qA) ⊛ ‵ ftrue) ⊛ ‵ (owns (types_at ended.signature.params z.0.0) z.0.3 vss))
        ∷ (raw (fact 𝓤 (κT ⊑ E.row.lives)) ⊛ raw (fact 𝓤 (κA ⊑ E.al.row.lives)) ⊛ raw (fact 𝓤 Asked)) ∷ []) ∵
        move ! (1 ∷ []) $ split ! $ drop ! $ split ! $ heard ! (κA ⊑ E.al.row.lives) (λ lives. heard ! Asked (λ asked.
        let fits : n * s < 2 ^ 64 = wider (n * s) asked.1 in let tiny : s < 2 ^ 64 = wider s (one_below n s (2 ^ 63) asked.0 asked.1) in
        split ! $ split ! $ move ! (2 ∷ []) $ fsplit3 ! $ fsplit ! $ feq_l ! (λ e₀. move ! (1 ∷ []) $ fsplit ! $ feq_l ! (λ e₁. flt_l ! (λ fn. keep ! (0 ∷ 2 ∷ 3 ∷ []) $
        -- [the `&` to the allocator; its token; the other tokens]
        let us : List Val = vptr hp.0 hp.1 ∷ vint w64 n ∷ [] in
        let Run : List Val → SProp 𝓤 = λ ws. WpFn 𝓤 H 𝓣.C 𝓣.Λ here ws Post in
        suffices ! (Run us) (subst (λ (ws : List Val). ent 𝓤 (Run us) (Run ws)) (sym (λ k. e₀ k ++ (e₁ k ++ []))) (id⊢ 𝓤 (Run us))) $
        enter ! 𝓣.C 𝓣.Λ here us Post $ alloc_all ! (λ l. pass_all ! refl ((tt, tt), ((tt, record { fits = fn }), tt)) $
        let En : Env 𝓤 H = env here.locals l in
        let both : Body = front (after 2 here.body) in
        let behind : After 𝓤 H = any_q (after_seq 𝓤 H (Wp 𝓤 H 𝓣.C 𝓣.Λ En (after 3 here.body) (at_return 𝓤 H En Post)) (at_return 𝓤 H En Post)) in
        let y : (Takes E.al 𝓛 at_mem run).Ghost = at_takes E.al 𝓛 at_mem run κ q hp a (n * s) al ty in
        sets ! (bin ! (get ! refl) (size_lit ! (record { fits = tiny })) (record { fits = fits })) refl (tt, record { fits = fits }) $
        use2 𝓛 (raw ((Takes E.al 𝓛 at_mem run).pre y)) (Takes-goes E.al 𝓛 at_mem run κ q hp a (Incl-trans z.0.2.0 lives) (n * s) al ty (ap capped (size-raw (ty_array τ n)) ∙ capped_is (n * s) fits) (ap capped (align-raw τ)) fits (capped_fits (align τ))) $
        calls_at ! (fm_of 𝓤 H 𝓛.laws 𝓣) (Takes E.al 𝓛 at_mem run) takes y (and_then ! (get ! refl) (and_then ! (get ! refl) (and_then ! (align_word !) (no_more !)))) (λ v.
        use1 𝓛 (later (raw (Answered E.al 𝓛 at_mem run a ty v) ⊛ ‵ (flft κ q))) (Takes-gives E.al 𝓛 at_mem run κ q hp a (n * s) al ty v) $ await ! tt $ split ! $
        move ! (1 ∷ 2 ∷ []) $ join ! $ move ! (1 ∷ []) $ answers E.al ! at_mem run a ty v
        (λ b o e.
        let new : Held E = record { base = block_ptr b o; by = record {}; items = []; room = n; alloc = a } in
        let some : WT (live 1 (vcons (word (block_ptr b o)) vnil)) = (record { fits = lit< tt }, ((tt, (tt, tt)), tt)) in
        lands_as ! e refl (Answer-typed true b o) $ first ! $ switches_on ! (get_tag ! (vrt ! refl (fld ! refl (stop !))) (whole !)) $ exec ! 𝓣.C 𝓣.Λ En (arm_body 0 both) behind $
        sets ! (of_opd ! (get_in ! (vrt ! refl (fld ! refl (stop !))) (in_variant ! 0 0 refl refl (whole !)))) refl (tt, tt) $ sets ! (of_opd ! (get ! refl)) refl (tt, tt) $
        sets ! (agg ! (no_more !)) refl (tt, tt) $ sets ! (agg ! (and_then ! (get ! refl) (and_then ! (get ! refl) (no_more !)))) refl (tt, (tt, (tt, tt))) $
        sets_last ! (agg ! (and_then ! (lit ! tt) (and_then ! (get ! refl) (no_more !)))) refl (tt, some) $
        exec ! 𝓣.C 𝓣.Λ En (after 3 here.body) (at_ret En Post) $ sets ! (of_opd ! (get ! refl)) refl (tt, some) $ returns ! (look_at ! 0 refl) $ free_all ! refl $
        as_written ! (ty_array τ n) b o $ use1 𝓛 (‵ (froom (ty_array τ 0) b o) ⊛ ‵ (froom (ty_array τ (n - 0)) b (o + 0 * s))) (room_split E 𝓛 0 n b o (omega arith)) $ split ! $ drop ! $
        use0 𝓛 (‵ (part_at (Array (R E) 0) full_share [] b o)) (empty E 𝓛 [] b o refl) $ made E ! new b o refl (omega arith) asked.1 $
        use1 𝓛 (‵ (Out.own_val (Some new) (live 1 (of_list (word (block_ptr b o) ∷ [])) ∷ []))) (Some-of 𝓛 (Mr E) new (word (block_ptr b o))) $ keep ! (0 ∷ 1 ∷ []) $
        by ! (exits z (Some new) (live 1 (of_list (word (block_ptr b o) ∷ []))) (refl, refl, refl)))
        (λ e.
        let none : WT (live 0 vnil) = (record { fits = lit< tt }, tt) in
        lands_as ! e refl (Answer-typed false 0 0) $ first ! $ switches_on ! (get_tag ! (vrt ! refl (fld ! refl (stop !))) (whole !)) $ exec ! 𝓣.C 𝓣.Λ En (arm_body 1 both) behind $
        sets_last ! (agg ! (and_then ! (lit ! tt) (no_more !))) refl (tt, none) $
        exec ! 𝓣.C 𝓣.Λ En (after 3 here.body) (at_ret En Post) $ sets ! (of_opd ! (get ! refl)) refl (tt, none) $ returns ! (look_at ! 0 refl) $ free_all ! refl $
        use0 𝓛 (‵ (Out.own_val None (live 0 (of_list []) ∷ []))) (none_of 𝓛 (Mr E)) $ keep ! (0 ∷ 1 ∷ []) $ by ! (exits z None (live 0 (of_list [])) tt)))))))))

    meets : Meets 𝓛 ended.signature (WpFn 𝓤 H 𝓣.C 𝓣.Λ here) (closing 𝓛 ended clauses)
    meets =
        walk_Meets 𝓛 ended stayed (Goes-dropped 𝓛 3 (RefOf (0 ∷ []) tt (plain (λ _. P E)) (λ _. tt)) yes (λ κs x f. refl), (Goes-dropped 𝓛 3 (plain (λ _. usize)) yes (λ κs x f. refl), tt)) clauses
        (WpFn 𝓤 H 𝓣.C 𝓣.Λ here) (WpFn-mono 𝓤 H 𝓛.laws 𝓣 here) walk

pub allocate_spec : {M : Type 1} → stated.statement M
unfolding tables_of
allocate_spec 𝓤 𝓛 𝓜 𝓡 wired X Y LX LY g d dd met md =
    let E : El = record { row = X; laws = LX; al = record { row = Y; laws = LY; g = g; d = d; drops = dd } } in
    let 𝓣 : Tables 𝓤 𝓛.H = tables_of 𝓤 𝓛.H 𝓜 (tables 𝓤 𝓛.H 𝓜 𝓡 𝓡.env) in
    entered 𝓤 𝓛.H (triple_of 𝓛 (ended E).signature (F.spec X Y g d dd 𝓛 𝓜.mem 𝓡.returns)) 𝓣.C 𝓣.Λ (key.name (args E)) (here E) (code.unfolded 𝓤 𝓛.H 𝓜 𝓡 wired (X, (Y, tt)) d dd)
    (meets E 𝓛 𝓜.mem 𝓡.returns 𝓣 (met.allocate dd))
