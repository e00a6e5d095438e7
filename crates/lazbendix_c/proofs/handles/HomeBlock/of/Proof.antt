-- `of` keeps the block of its box.
use Rattle.lazbendix_c.proofs.Grasps.{Held, both, held_good, held_out, word_made, word_own, word_typed, word_val}
use Rattle.lazbendix_c.proofs.handles.HomeBlock.of.Code as code
use Rattle.lazbendix_c.proofs.handles.HomeBlock.of.Statement.{statement}
use Rattle.lazbendix_c.specs.contracts.handles.HomeBlock as home_block
use Rattle.lazbendix_c.specs.contracts.handles.HomeBlock.of.Key.{name as #self}
use Rattle.lazbendix_c.specs.contracts.handles.HomeBlock.of.{clauses, ended}
use Rattle.home_states.specs.contracts.homes.LiveHome as state
use Rattle.lazbendix_c.proofs.Prelude.{ !, Global, Goes-blank, List, RattleType, SProp, Stays, Val, WpFn, [], agg, alive, alloc_all, and_then, block_ptr, box_owns, by, emp, ent, enter, env, fact, fact_i, fjoin, fld, fpack, free_all, fsplit, get, get_in, ghosts, id⊢, keep, leaves, look_at, move, no_more, nothing, of_opd, owns, pass_all, plain, proved_at, qed, raw, refl, returns, sets, split, stay_dropped, stop, sub, subst, suffices, sym, tables, types_at, use0, vptr, walk_of, whole, ‵, ◌$◌, ◌++◌, ◌∵◌, ◌∷◌, ◌≡◌, ◌⊛◌}
use Rattle.std.proofs.Common.{Some}
use Rattle.std.proofs.alloc.Global.TheLaws as heap_laws
use Rattle.std.specs.contracts.alloc.Global as heap

pub of_spec : {M : Type 1} → statement M
of_spec 𝓤 𝓛 𝓜 𝓡 wired =
    let H = 𝓛.H in let 𝓣 = tables 𝓤 H 𝓜 𝓡 𝓡.env in let R : RattleType = state.the_row in let Z : RattleType = heap.the_row in let LZ = heap_laws.the_row_laws in
    let En = ended in let c = clauses 𝓛 𝓜.mem 𝓡.returns in let fn = code.function in let hs : Stays En.signature.params En.kept = (stay_dropped (plain (λ _. Held R Z LZ ghosts)) En.kept.0, tt) in
    proved_at 𝓛 En hs c 𝓜 𝓡 (Goes-blank 𝓛 0 (plain (λ _. Held R Z LZ ghosts)) En.kept.0 (λ κs x f. tt), tt) #self fn (code.unfolded 𝓤 H 𝓜 𝓡 wired) (λ z are.
    let Post : Val → SProp 𝓤 = (walk_of 𝓛 En hs c).post z in let Run : List Val → SProp 𝓤 = λ ws. WpFn 𝓤 H 𝓣.C 𝓣.Λ fn ws Post in let v = z.0.3.0 in
    qed 𝓛 ((raw (alive 𝓛 En.signature z.0.0 z.0.1) ⊛ ‵ (owns (types_at En.signature.params z.0.0) z.0.3 z.0.4)) ∷ raw ((c z.0.0 z.0.3).requires z.1) ∷ []) ∵ split ! $ move ! (1 ∷ []) $ fsplit ! $ held_out R Z LZ ghosts ! v z.0.4.0 (λ b o h e ws fits.
    let w : Val = both (vptr b o) h in let typed = held_good R Z LZ ghosts b o h fits in
    let r : home_block.the_row.Denot = record { at = block_ptr b o; state = Some v.value } in let Told : Type 0 = r.state ≡ Some v.value in
    suffices ! (Run (w ∷ [])) (subst (λ (us : List Val). ent 𝓤 (Run (w ∷ [])) (Run us)) (sym (λ i. ws i ++ [])) (id⊢ 𝓤 (Run (w ∷ [])))) $
    enter ! 𝓣.C 𝓣.Λ fn (w ∷ []) Post $ alloc_all ! (λ l. pass_all ! refl (typed, tt) $ let Ev = env fn.locals l in
    sets ! (of_opd ! (get_in ! (fld ! refl (stop !)) (sub ! 0 refl (whole !)))) refl (tt, tt) $ sets ! (of_opd ! (get ! refl)) refl (tt, tt) $ sets ! (agg ! (and_then ! (get ! refl) (no_more !))) refl (word_typed (block_ptr b o)) $
    returns ! (look_at ! 0 refl) $ free_all ! refl $
    fpack ! Global (λ a. box_owns (ghosts.dealloc_token a) R (block_ptr b o) v.value) v.alloc $
    use0 𝓛 (‵ (word_own (block_ptr b o) (word_val (block_ptr b o) ∷ []))) (word_made 𝓛 (block_ptr b o)) $ fjoin ! $
    use0 𝓛 (raw (fact 𝓤 Told)) (fact_i 𝓤 Told (emp 𝓤) refl) $ nothing ! $ nothing ! $ fjoin ! $ keep ! (5 ∷ 0 ∷ 2 ∷ 1 ∷ []) $ by ! (leaves 𝓛 En hs c z (word_val (block_ptr b o)) r (tt, tt) (tt, tt)))))
