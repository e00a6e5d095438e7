-- `into_held` hands the block on.
use Rattle.lazbendix_c.proofs.Grasps.{Held, al, block_parts, both, held_good, held_in, word_told, word_typed, word_val}
use Rattle.lazbendix_c.proofs.handles.HomeBlock.into_held.Code as code
use Rattle.lazbendix_c.proofs.handles.HomeBlock.into_held.Statement.{statement}
use Rattle.lazbendix_c.specs.contracts.handles.HomeBlock as home_block
use Rattle.lazbendix_c.specs.contracts.handles.HomeBlock.into_held.Key.{name as #self}
use Rattle.lazbendix_c.specs.contracts.handles.HomeBlock.into_held.{clauses, ended}
use Rattle.home_states.specs.contracts.homes.LiveHome as state
use Rattle.lazbendix_c.proofs.Prelude.{ !, Env, Goes-blank, Goes-dropped, List, RattleType, SProp, Stays, Val, WpFn, [], agg, alive, alloc_all, and_then, block_ptr, by, drop, emp, ent, enter, env, fact, fact_i, fjoin, fld, free_all, fsplit, get, get_in, ghosts, handle_tells, heard, id⊢, keep, leaves, look_at, move, no_more, nothing, of_opd, owns, pass_all, plain, proved_at, qed, raw, refl, returns, sets, split, stay_dropped, stop, sub, subst, suffices, sym, tables, types_at, use0, vptr, walk_of, whole, ‵, ◌$◌, ◌++◌, ◌∙◌, ◌∵◌, ◌∷◌, ◌≡◌, ◌≢◌, ◌⊛◌}
use Rattle.core.specs.declared.option.Option.TheVariants.{None, Some}
use Rattle.std.proofs.alloc.Global.TheLaws as heap_laws
use Rattle.std.specs.contracts.alloc.Global as heap

pub into_held_spec : {M : Type 1} → statement M
into_held_spec 𝓤 𝓛 𝓜 𝓡 wired =
    let H = 𝓛.H in let 𝓣 = tables 𝓤 H 𝓜 𝓡 𝓡.env in let R : RattleType = state.the_row in let Z : RattleType = heap.the_row in let LZ = heap_laws.the_row_laws in let Lr : RattleType = Held R Z LZ ghosts in
    let En = ended in let c = clauses 𝓛 𝓜.mem 𝓡.returns in let fn = code.function in
    let hs : Stays En.signature.params En.kept = (stay_dropped (plain (λ _. home_block.the_row)) En.kept.0, (stay_dropped (plain (λ _. Z)) En.kept.1.0, tt)) in
    proved_at 𝓛 En hs c 𝓜 𝓡 (Goes-blank 𝓛 0 (plain (λ _. home_block.the_row)) En.kept.0 (λ κs x f. tt), (Goes-dropped 𝓛 0 (plain (λ _. Z)) En.kept.1.0 (λ κs x f. refl), tt)) #self fn (code.unfolded 𝓤 H 𝓜 𝓡 wired) (λ z are.
    let κs = z.0.0 in let Post : Val → SProp 𝓤 = (walk_of 𝓛 En hs c).post z in let Run : List Val → SProp 𝓤 = λ ws. WpFn 𝓤 H 𝓣.C 𝓣.Λ fn ws Post in
    let v = z.0.3.0 in let a = z.0.3.1.0 in let told = word_told v.at z.0.4.0 are.0.0 in
    qed 𝓛 ((raw (alive 𝓛 En.signature z.0.0 z.0.1) ⊛ ‵ (owns (types_at En.signature.params z.0.0) z.0.3 z.0.4)) ∷ raw ((c z.0.0 z.0.3).requires z.1) ∷ []) ∵ split ! $ move ! (2 ∷ []) $ heard ! (v.state ≢ None) (λ is.
    move ! (1 ∷ []) $ fsplit ! $ fsplit ! $ drop ! $
    move ! (1 ∷ []) $ fsplit ! $ handle_tells (al R Z LZ ghosts) ! a z.0.4.1.0 (λ h eh fits. move ! (2 ∷ []) $
    block_parts ! v.at v.state is
    (λ b o x some e a'. let w : Val = word_val (block_ptr b o) in let made : Val = both (vptr b o) h in let typed = held_good R Z LZ ghosts b o h fits in
    let d : Lr.Denot = record { at = block_ptr b o; alloc = a; value = x } in let Told : Type 0 = v.state ≡ Some d.value in
    suffices ! (Run (w ∷ h ∷ [])) (subst (λ (us : List Val). ent 𝓤 (Run (w ∷ h ∷ [])) (Run us)) (sym (λ i. (told ∙ (λ j. word_val (e j) ∷ [])) i ++ (eh i ++ []))) (id⊢ 𝓤 (Run (w ∷ h ∷ [])))) $
    enter ! 𝓣.C 𝓣.Λ fn (w ∷ h ∷ []) Post $ alloc_all ! (λ l. pass_all ! refl (word_typed (block_ptr b o), (fits, tt)) $ let Ev : Env 𝓤 𝓛.H = env fn.locals l in
    sets ! (of_opd ! (get_in ! (fld ! refl (stop !)) (sub ! 0 refl (whole !)))) refl (tt, tt) $
    sets ! (of_opd ! (get ! refl)) refl (tt, tt) $ sets ! (agg ! (and_then ! (get ! refl) (and_then ! (get ! refl) (no_more !)))) refl typed $
    held_in R Z LZ ghosts ! b o h a x $
    use0 𝓛 (raw (fact 𝓤 Told)) (fact_i 𝓤 Told (emp 𝓤) some) $
    nothing ! $ nothing ! $ fjoin ! $ nothing ! $ fjoin ! $
    returns ! (look_at ! 0 refl) $ free_all ! refl $ keep ! (4 ∷ 0 ∷ 2 ∷ 1 ∷ []) $ by ! (leaves 𝓛 En hs c z made d (tt, (tt, tt)) (tt, (tt, tt))))))))
