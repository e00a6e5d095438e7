-- `push` writes into the first place of the room.
use Rattle.chain_arena.proofs.Prelude.{ !, Array, Clauses, El, Ended, Env, Fn, Fun, Goes-dropped, Goes-ref, Logic, Meets, Memory, R, Routine, SProp, Stays, Tables, Ura, Val, WpFn, WpFn-mono, after, alloc_all, args, assigns_last, at_ret, bin, blocks, closing, done, drop, el_in, el_lawful, elτ, ends_at, ent, enter, entered, env, exec, fact, feq_i, feq_l, first, fjoin, fjoin3, fld, flft, flt_l, frame, free_all, froom, fsplit, fsplit3, ftrue, full_share, get, heard, id⊢, init, inst_fn, join, keep, load, look_at, look_in, move, no, nothing, of_opd, one_below, owns, part_at, pass_all, peeks, plain, qed, raw, returns, rewrite, sets, size_lit, snoc, spare, split, stay_dropped, stay_ref, stop, sub, suffices, sz, tables, through, times_below, triple_of, ty_array, types_at, unit_lit, use1, use2, usize, vint, vptr, vunit, w64, walk_Meets, walk_of, whole, wider, yes, ‵, ◌$◌, ◌*◌, ◌++◌, ◌-◌, ◌<◌, ◌^◌, ◌∵◌, ◌⊑◌, ◌⊛◌}
use Prim.Native.Nat.{◌+◌, ℕ}
use Rattle.chain_arena.proofs.Opened.{Held, Mr, closed, opened}
use Rattle.chain_arena.proofs.memory.Memory.push.Code as code
use Rattle.chain_arena.proofs.memory.Memory.push.Statement as stated
use Rattle.chain_arena.specs.contracts.memory.Memory.push as F
use Rattle.chain_arena.specs.contracts.memory.Memory.push.Key as key
use Rattle.core.proofs.mem.Facts.{says_two}
use Rattle.core.proofs.mem.Param.{one}
use contract.Running.{tables_of}
use denote.Laws.{Is, shows}
use lib.ListN.{length, length-append}
use mathlib.Core.List.{List, [], ◌∷◌}
use mathlib.Core.Path.{ap, refl, subst, sym, ◌∙◌, ◌≡◌}
use native.Mathlib.Omega.{arith}

module _ (E : El) where
  abbrev here : Fn
  here = inst_fn (args E) code.function

  abbrev ended : Ended
  ended = F.ended E.row E.al.row E.al.g E.al.d E.al.drops

  abbrev stayed : Stays ended.signature.params ended.kept
  stayed = (stay_ref (0 ∷ []) tt (plain (λ _. Mr E)), (stay_dropped (plain (λ _. usize)) yes, (stay_dropped (plain (λ _. R E)) no, tt)))

  module _ {M : Type 1} {𝓤 : Ura M} (𝓛 : Logic 𝓤) (at_mem : Memory → SProp 𝓤) (run : Routine → Fun 𝓤) (𝓣 : Tables 𝓤 𝓛.H) where
    open 𝓛 use {H}

    abbrev says : Clauses 𝓤 ended
    says = F.clauses E.row E.al.row E.al.g E.al.d E.al.drops 𝓛 at_mem run

    abbrev Bound : Type 0
    Bound = (walk_of 𝓛 ended stayed says).Ghost

    abbrev Goes : Bound → Type 1
    Goes z = ent 𝓤 ((walk_of 𝓛 ended stayed says).pre z) (WpFn 𝓤 H 𝓣.C 𝓣.Λ here ((walk_of 𝓛 ended stayed says).args z) ((walk_of 𝓛 ended stayed says).post z))

    walk : (z : Bound) → Goes z
    walk z =
        let κ = z.0.0.0 in let κT = z.0.0.1.0 in let κA = z.0.0.1.1.0 in let q = z.0.1.0 in let qT = z.0.1.1.0 in let qA = z.0.1.1.1.0 in
        let rb = z.0.3.0.ref_ptr.0 in let ro = z.0.3.0.ref_ptr.1 in let m : Held E = z.0.3.0.now in let n : ℕ = z.0.3.1.0 in let x = z.0.3.1.1.0 in let vss = z.0.4 in
        let Post : Val → SProp 𝓤 = (walk_of 𝓛 ended stayed says).post z in
        let Asked : Type 0 = (n ≡ length m.items) × (n < m.room) in
        let s : ℕ = sz E in let c : ℕ = m.room in let τ = elτ E in
        qed 𝓛 (((‵ (flft κ q) ⊛ ‵ (flft κT qT) ⊛ ‵ (flft κA qA) ⊛ ‵ ftrue) ⊛ ‵ (owns (types_at ended.signature.params z.0.0) z.0.3 vss))
        ∷ (raw (fact 𝓤 (κT ⊑ E.row.lives)) ⊛ raw (fact 𝓤 (κA ⊑ E.al.row.lives)) ⊛ raw (fact 𝓤 Asked)) ∷ []) ∵
        move ! (1 ∷ []) $ split ! $ drop ! $ split ! $ drop ! $ heard ! Asked (λ asked.
        split ! $ split ! $ move ! (2 ∷ []) $ fsplit3 ! $ fsplit3 ! $ feq_l ! (λ e₀. move ! (2 ∷ []) $ fsplit ! $ feq_l ! (λ e₁. flt_l ! (λ fn.
        move ! (2 ∷ []) $ fsplit ! $ peeks ! (R E) (Is (R E)) (shows 𝓛 (R E)) x vss.1.1.0 (λ is.
        let got = one (record { row = E.row; laws = E.laws }) vss.1.1.0 ((el_lawful E 𝓛).typed x vss.1.1.0 is) in let v : Val = got.0 in let good = got.2 in
        rewrite ! 0 (λ (us : List Val). ‵ (E.row.own_val x us)) got.1 refl $ keep ! (2 ∷ 3 ∷ 4 ∷ 0 ∷ 5 ∷ []) $
        -- [self, in two entries; its token; the value; the other tokens]
        let us : List Val = vptr rb ro ∷ vint w64 n ∷ v ∷ [] in
        let Run : List Val → SProp 𝓤 = λ ws. WpFn 𝓤 H 𝓣.C 𝓣.Λ here ws Post in
        suffices ! (Run us) (subst (λ (ws : List Val). ent 𝓤 (Run us) (Run ws)) (sym (λ k. e₀ k ++ (e₁ k ++ (got.1 k ++ [])))) (id⊢ 𝓤 (Run us))) $
        enter ! 𝓣.C 𝓣.Λ here us Post $ alloc_all ! (λ l. pass_all ! refl ((tt, tt), ((tt, record { fits = fn }), (good, tt))) $
        let En : Env 𝓤 H = env here.locals l in
        opened E ! tt m rb ro (λ b o at few fit.
        let less : n < c = asked.1 in
        let tiny : s < 2 ^ 64 = wider s (one_below c s (2 ^ 63) (omega arith) fit) in
        let near : n * s < 2 ^ 64 = wider (n * s) (times_below n c s (2 ^ 63) (omega arith) fit) in
        let more : n + 1 ≡ length (m.items ++ x ∷ []) = ap (λ (k : ℕ). k + 1) asked.0 ∙ sym (length-append m.items (x ∷ [])) in
        let new : Held E = record m { items = m.items ++ x ∷ [] } in
        rewrite ! 0 (λ (k : ℕ). ‵ (part_at (Array (R E) k) full_share m.items b o)) (sym asked.0) refl $ rewrite ! 1 (λ (k : ℕ). ‵ (froom (ty_array τ (c - k)) b (o + k * s))) (sym asked.0) refl $
        move ! (1 ∷ []) $ use1 𝓛 (‵ (froom τ b (n * s + o)) ⊛ ‵ (froom (ty_array τ (c - (n + 1))) b (o + (n + 1) * s))) (spare E 𝓛 b o n c less) $ split ! $
        -- [the place; the rest of the room; the values; the right to give it back; the pointer; ..]
        first ! $ blocks ! $
        sets ! (of_opd ! (load ! (through ! refl (fld ! refl (stop !))) (look_in ! 4 (sub ! 0 refl (whole !))))) refl (tt, tt) $
        sets ! (bin ! (get ! refl) (size_lit ! (record { fits = tiny })) (record { fits = near })) refl (tt, record { fits = near }) $
        sets ! (bin ! (get ! refl) (get ! refl) tt) refl (tt, tt) $ sets ! (of_opd ! (get ! refl)) refl good $
        assigns_last ! (of_opd ! (get ! refl)) (through ! refl (stop !)) (init ! 0 refl good) $
        exec ! 𝓣.C 𝓣.Λ En (after 1 here.body) (at_ret En Post) $ sets ! (of_opd ! (unit_lit !)) refl (tt, tt) $
        move ! (0 ∷ 8 ∷ []) $ use2 𝓛 (‵ (part_at (R E) full_share x b (n * s + o))) (el_in E 𝓛 full_share x b (n * s + o) v) $
        move ! (2 ∷ 0 ∷ []) $ use2 𝓛 (‵ (part_at (Array (R E) (n + 1)) full_share (m.items ++ x ∷ []) b o)) (snoc E 𝓛 b o n m.items x) $
        rewrite ! 0 (λ (k : ℕ). ‵ (part_at (Array (R E) k) full_share (m.items ++ x ∷ []) b o)) more refl $ rewrite ! 1 (λ (k : ℕ). ‵ (froom (ty_array τ (c - k)) b (o + k * s))) more refl $
        closed E ! tt new b o rb ro at (omega (arith, less, more)) fit $ returns ! (look_at ! 0 refl) $ free_all ! refl $
        -- [self, in two entries; its token; the other tokens]
        suffices ! _ (ends_at 𝓛 ended stayed says z vunit tt (new, (tt, (tt, tt))) (tt, (tt, (tt, tt)))) $ says_two ! (refl, (refl, refl)) $
        move ! (2 ∷ 3 ∷ []) $ join ! $ frame ! $
        feq_i ! (List Val) vss.0 (vptr rb ro ∷ []) e₀ $ fjoin3 ! $ nothing ! $ nothing ! $ fjoin ! $ nothing ! $ fjoin ! $ move ! (1 ∷ 0 ∷ []) $ fjoin ! $
        feq_i ! (List Val) (vunit ∷ []) (vunit ∷ []) refl $ move ! (1 ∷ 0 ∷ []) $ done !)))))))

    meets : Meets 𝓛 ended.signature (WpFn 𝓤 H 𝓣.C 𝓣.Λ here) (closing 𝓛 ended says)
    meets =
        walk_Meets 𝓛 ended stayed (Goes-ref 𝓛 3 0 tt (plain (λ _. Mr E)), (Goes-dropped 𝓛 3 (plain (λ _. usize)) yes (λ κs x f. refl), (Goes-dropped 𝓛 3 (plain (λ _. R E)) no (λ κs x f. refl), tt))) says
        (WpFn 𝓤 H 𝓣.C 𝓣.Λ here) (WpFn-mono 𝓤 H 𝓛.laws 𝓣 here) walk

pub push_spec : {M : Type 1} → stated.statement M
unfolding tables_of
push_spec 𝓤 𝓛 𝓜 𝓡 wired X Y LX LY g d dd met md =
    let E : El = record { row = X; laws = LX; al = record { row = Y; laws = LY; g = g; d = d; drops = dd } } in
    let 𝓣 : Tables 𝓤 𝓛.H = tables_of 𝓤 𝓛.H 𝓜 (tables 𝓤 𝓛.H 𝓜 𝓡 𝓡.env) in
    entered 𝓤 𝓛.H (triple_of 𝓛 (ended E).signature (F.spec X Y g d dd 𝓛 𝓜.mem 𝓡.returns)) 𝓣.C 𝓣.Λ (key.name (args E)) (here E) (code.unfolded 𝓤 𝓛.H 𝓜 𝓡 wired (X, (Y, tt)) d dd)
    (meets E 𝓛 𝓜.mem 𝓡.returns 𝓣)
