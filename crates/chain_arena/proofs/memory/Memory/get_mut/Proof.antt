-- `get_mut` lends one value. All else of the block waits until it comes back.
use Rattle.chain_arena.proofs.Prelude.{ !, Array, Clauses, El, Ended, Env, Fml, Fn, Fun, GName, Goes-dropped, Goes-spent_ref, Logic, Meets, Memory, R, RefMutOf, Routine, SProp, Stays, Tables, Ura, Val, WpFn, WpFn-mono, addr, after, alloc_all, args, at_ret, await, bin, block_ptr, blocks, cell_at, closing, done, drop, el_x, elτ, ends_at, ent, enter, entered, env, exec, fact, feq_l, first, fjoin, fld, flft, flt_l, fpack, frame, free_all, froom, fsep, fsplit, fsplit3, ftrue, full_share, get, get_or, given, group, hd, heard, id⊢, inst_fn, join, keep, later, learn, load, look_at, look_in, mem, move, named, no, nothing, of_opd, one_below, others, owns, part_at, pass_all, pick, plain, put_in, qed, raw, returns, rewrite, says, sem, sep, sets, sets_last, shares, size_lit, slice_get-get_or, some, split, split3, stay_dropped, stop, sub, suffices, sz, tables, take_out, through, times_below, token, triple_of, ty_array, types_at, use1, use2, usize, vint, vptr, w64, walk_Meets, walk_of, whole, wider, yes, ‵, ◌$◌, ◌*◌, ◌++◌, ◌-◌, ◌<◌, ◌^◌, ◌∵◌, ◌⊑◌, ◌⊛◌}
use Prim.Native.Nat.{◌+◌, ℕ}
use Rattle.chain_arena.proofs.Opened.{Held, Mr, count, opened}
use Rattle.chain_arena.proofs.memory.Memory.get_mut.Code as code
use Rattle.chain_arena.proofs.memory.Memory.get_mut.Statement as stated
use Rattle.chain_arena.specs.contracts.memory.Memory.get_mut as F
use Rattle.chain_arena.specs.contracts.memory.Memory.get_mut.Key as key
use contract.Running.{tables_of}
use lib.ListN.{length}
use mathlib.Core.List.{List, [], ◌∷◌}
use mathlib.Core.Path.{refl, subst, sym, ◌≡◌}
use native.Mathlib.Omega.{arith}
use Rattle.chain_arena.proofs.Opened.{made, word}
use Rattle.chain_arena.specs.MemoryLends.{with_written_value}
use denote.Follow.{follows, lends_Part}
use denote.Memory.{part_of}
use denote.Ref.{MutRef}
use lib.ListN.{length-set, set}
use mir.Raw.{raw as bare}

module _ (E : El) {M : Type 1} {𝓤 : Ura M} (𝓛 : Logic 𝓤) (rb ro b o : ℕ) (m : Held E) (i : ℕ) where
  abbrev Rest : Fml
  Rest =
      fsep (others (shares (R E)) full_share m.items i b o) (fsep (froom (ty_array (elτ E) (m.room - count E m)) b (o + count E m * sz E))
      (fsep (token E.al m.alloc (bare (ty_array (elτ E) m.room)) (block_ptr b o)) (cell_at full_share (Mr E).mir (word (block_ptr b o) ∷ []) rb ro)))

  whole_again : m.base ≡ block_ptr b o → count E m < m.room + 1 → m.room * sz E < 2 ^ 63 → i < count E m → (x : el_x E)
      → ent 𝓤 (sep 𝓤 (sem 𝓛 ((mem (R E)).own_at x b (i * sz E + o))) (sem 𝓛 Rest)) (sem 𝓛 ((mem (Mr E)).own_at (with_written_value m i x) rb ro))
  unfolding part_of
  whole_again at few fit within x =
      let same : count E m ≡ count E (with_written_value m i x) = sym (length-set m.items i x) in
      qed 𝓛 (‵ (part_at (R E) full_share x b (i * sz E + o)) ∷ ‵ Rest ∷ []) ∵ move ! (1 ∷ []) $ fsplit ! $ move ! (2 ∷ 0 ∷ []) $
      use2 𝓛 (‵ (part_at (Array (R E) (count E m)) full_share (set m.items i x) b o)) (put_in E 𝓛 (count E m) m.items i x b o within refl) $ move ! (1 ∷ []) $ fsplit3 ! $ move ! (3 ∷ 0 ∷ 1 ∷ 2 ∷ []) $
      rewrite ! 0 (λ (k : ℕ). ‵ (part_at (Array (R E) k) full_share (set m.items i x) b o)) same refl $ rewrite ! 1 (λ (k : ℕ). ‵ (froom (ty_array (elτ E) (m.room - k)) b (o + k * sz E))) same refl $
      made E ! (with_written_value m i x) b o at (omega (arith, few, same)) fit $ move ! (1 ∷ 0 ∷ []) $ fjoin ! $
      fpack ! (List Val) (λ us. fsep (cell_at full_share (Mr E).mir us rb ro) ((Mr E).own_val (with_written_value m i x) us)) (word (block_ptr b o) ∷ []) $ done !

module _ (E : El) where
  abbrev here : Fn
  here = inst_fn (args E) code.function

  abbrev ended : Ended
  ended = F.ended E.row E.al.row E.al.g E.al.d E.al.drops

  abbrev stayed : Stays ended.signature.params ended.kept
  stayed = (stay_dropped (RefMutOf (0 ∷ []) tt (plain (λ _. Mr E)) (λ _. tt)) no, (stay_dropped (plain (λ _. usize)) yes, tt))

  module _ {M : Type 1} {𝓤 : Ura M} (𝓛 : Logic 𝓤) (at_mem : Memory → SProp 𝓤) (run : Routine → Fun 𝓤) (𝓣 : Tables 𝓤 𝓛.H) where
    open 𝓛 use {H}

    abbrev clauses : Clauses 𝓤 ended
    clauses = F.clauses E.row E.al.row E.al.g E.al.d E.al.drops 𝓛 at_mem run

    abbrev Bound : Type 0
    Bound = (walk_of 𝓛 ended stayed clauses).Ghost

    abbrev Goes : Bound → Type 1
    Goes z = ent 𝓤 ((walk_of 𝓛 ended stayed clauses).pre z) (WpFn 𝓤 H 𝓣.C 𝓣.Λ here ((walk_of 𝓛 ended stayed clauses).args z) ((walk_of 𝓛 ended stayed clauses).post z))

    walk : (z : Bound) → Goes z
    walk z =
        let κ = z.0.0.0 in let κT = z.0.0.1.0 in let κA = z.0.0.1.1.0 in let q = z.0.1.0 in let qT = z.0.1.1.0 in let qA = z.0.1.1.1.0 in
        let rb = z.0.3.0.ref_ptr.0 in let ro = z.0.3.0.ref_ptr.1 in let γ = z.0.3.0.ghost_name in let m : Held E = z.0.3.0.now in let i : ℕ = z.0.3.1.0 in let vss = z.0.4 in
        let Post : Val → SProp 𝓤 = (walk_of 𝓛 ended stayed clauses).post z in
        let Asked : Type 0 = i < length m.items in
        let s : ℕ = sz E in let c : ℕ = m.room in
        qed 𝓛 (((‵ (flft κ q) ⊛ ‵ (flft κT qT) ⊛ ‵ (flft κA qA) ⊛ ‵ ftrue) ⊛ ‵ (owns (types_at ended.signature.params z.0.0) z.0.3 vss))
        ∷ (raw (fact 𝓤 (κT ⊑ E.row.lives)) ⊛ raw (fact 𝓤 (κA ⊑ E.al.row.lives)) ⊛ raw (fact 𝓤 Asked)) ∷ []) ∵
        move ! (1 ∷ []) $ split ! $ drop ! $ split ! $ drop ! $ heard ! Asked (λ asked.
        split ! $ split ! $ move ! (2 ∷ []) $ fsplit3 ! $ fsplit3 ! $ feq_l ! (λ e₀. move ! (2 ∷ []) $ fsplit ! $ feq_l ! (λ e₁. flt_l ! (λ fi.
        keep ! (0 ∷ 1 ∷ 3 ∷ 4 ∷ []) $
        -- [self, in two entries; its token; the other tokens]
        let us : List Val = vptr rb ro ∷ vint w64 i ∷ [] in
        let Run : List Val → SProp 𝓤 = λ ws. WpFn 𝓤 H 𝓣.C 𝓣.Λ here ws Post in
        suffices ! (Run us) (subst (λ (ws : List Val). ent 𝓤 (Run us) (Run ws)) (sym (λ k. e₀ k ++ (e₁ k ++ []))) (id⊢ 𝓤 (Run us))) $
        enter ! 𝓣.C 𝓣.Λ here us Post $ alloc_all ! (λ l. pass_all ! refl ((tt, tt), ((tt, record { fits = fi }), tt)) $
        let En : Env 𝓤 H = env here.locals l in
        opened E ! tt m rb ro (λ b o at few fit.
        let d = hd m.items (omega (arith, asked)) in let x = get_or m.items i d in
        let tiny : s < 2 ^ 64 = wider s (one_below c s (2 ^ 63) (omega (arith, asked, few)) fit) in
        let near : i * s < 2 ^ 64 = wider (i * s) (times_below i c s (2 ^ 63) (omega (arith, asked, few)) fit) in
        first ! $ blocks ! $
        sets ! (of_opd ! (load ! (through ! refl (fld ! refl (stop !))) (look_in ! 3 (sub ! 0 refl (whole !))))) refl (tt, tt) $
        sets ! (bin ! (get ! refl) (size_lit ! (record { fits = tiny })) (record { fits = near })) refl (tt, record { fits = near }) $
        sets ! (bin ! (get ! refl) (get ! refl) tt) refl (tt, tt) $ sets_last ! (addr ! (through ! refl (stop !))) refl (tt, tt) $
        exec ! 𝓣.C 𝓣.Λ En (after 1 here.body) (at_ret En Post) $ sets ! (of_opd ! (get ! refl)) refl (tt, tt) $
        use1 𝓛 (given (length m.items ≡ count E m) (‵ (part_at (R E) full_share x b (i * s + o)) ⊛ ‵ (others (shares (R E)) full_share m.items i b o))) (take_out E 𝓛 (count E m) m.items i d b o asked) $ learn ! (λ _. split ! $
        -- [the value; the other values; the room; the right to give it back; the pointer; the open borrow, in three entries; ..]
        move ! (3 ∷ 4 ∷ []) $ fjoin ! $ move ! (3 ∷ 0 ∷ []) $ fjoin ! $ move ! (2 ∷ 0 ∷ []) $ fjoin ! $ move ! (2 ∷ 3 ∷ 4 ∷ 1 ∷ 0 ∷ []) $ group ! 5 $
        use1 𝓛 (later (some (λ (δ : GName). ‵ ((MutRef (named 0) κ (R E)).own_val (record { ref_ptr = (b, i * s + o); ghost_name = δ; now = x }) (vptr b (i * s + o) ∷ [])) ⊛ ‵ (flft κ q) ⊛ ‵ (follows (Mr E) (R E) γ δ (with_written_value m i)))))
        (lends_Part 𝓛 (Mr E) (R E) (with_written_value m i) (named 0) κ q rb ro b (i * s + o) γ (sem 𝓛 (Rest E 𝓛 rb ro b o m i)) (whole_again E 𝓛 rb ro b o m i at few fit asked) ((Mr E).coded.code m) ((Mr E).coded.code m) x) $
        await ! tt $ pick ! (λ δ. split3 ! $ returns ! (look_at ! 0 refl) $ free_all ! refl $
        suffices ! _ (ends_at 𝓛 ended stayed clauses z (vptr b (i * s + o)) (record { ref_ptr = (b, i * s + o); ghost_name = δ; now = x }) (tt, (tt, tt)) (tt, (tt, tt))) $
        nothing ! $ nothing ! $ fjoin ! $ nothing ! $ fjoin ! $ join ! $ move ! (1 ∷ 3 ∷ []) $ join ! $ join ! $ frame ! $ says ! (slice_get-get_or m.items i d asked) $ keep ! (0 ∷ []) $ done !))))))))

    meets : Meets 𝓛 ended.signature (WpFn 𝓤 H 𝓣.C 𝓣.Λ here) (closing 𝓛 ended clauses)
    meets =
        walk_Meets 𝓛 ended stayed (Goes-spent_ref 𝓛 3 (0 ∷ []) tt (plain (λ _. Mr E)), (Goes-dropped 𝓛 3 (plain (λ _. usize)) yes (λ κs x f. refl), tt)) clauses
        (WpFn 𝓤 H 𝓣.C 𝓣.Λ here) (WpFn-mono 𝓤 H 𝓛.laws 𝓣 here) walk

pub get_mut_spec : {M : Type 1} → stated.statement M
unfolding tables_of
get_mut_spec 𝓤 𝓛 𝓜 𝓡 wired X Y LX LY g d dd met md =
    let E : El = record { row = X; laws = LX; al = record { row = Y; laws = LY; g = g; d = d; drops = dd } } in
    let 𝓣 : Tables 𝓤 𝓛.H = tables_of 𝓤 𝓛.H 𝓜 (tables 𝓤 𝓛.H 𝓜 𝓡 𝓡.env) in
    entered 𝓤 𝓛.H (triple_of 𝓛 (ended E).signature (F.spec X Y g d dd 𝓛 𝓜.mem 𝓡.returns)) 𝓣.C 𝓣.Λ (key.name (args E)) (here E) (code.unfolded 𝓤 𝓛.H 𝓜 𝓡 wired (X, (Y, tt)) d dd)
    (meets E 𝓛 𝓜.mem 𝓡.returns 𝓣)
