-- `none` owns nothing beside its word.
use Rattle.lazbendix_c.proofs.Grasps.{word_made, word_own, word_typed, word_val}
use Rattle.lazbendix_c.proofs.handles.HomeBlock.none.Code as code
use Rattle.lazbendix_c.proofs.handles.HomeBlock.none.Statement.{statement}
use Rattle.lazbendix_c.specs.contracts.handles.HomeBlock as home_block
use Rattle.lazbendix_c.specs.contracts.handles.HomeBlock.none.Key.{name as #self}
use Rattle.lazbendix_c.specs.contracts.handles.HomeBlock.none.{clauses, ended}
use Rattle.lazbendix_c.proofs.Prelude.{ !, SProp, Stays, Val, [], agg, alive, alloc_all, and_then, by, emp, enter, env, fact, fact_i, fjoin, free_all, keep, leaves, lit, look_at, no_more, nothing, null_ptr, owns, pass_all, proved_at, qed, raw, refl, returns, sets, split, tables, types_at, use0, walk_of, ‵, ◌$◌, ◌∵◌, ◌∷◌, ◌≡◌, ◌⊛◌}
use Rattle.std.proofs.Common.{None}

pub none_spec : {M : Type 1} → statement M
none_spec 𝓤 𝓛 𝓜 𝓡 wired =
    let H = 𝓛.H in let 𝓣 = tables 𝓤 H 𝓜 𝓡 𝓡.env in let En = ended in let c = clauses 𝓛 𝓜.mem 𝓡.returns in let fn = code.function in let hs : Stays En.signature.params En.kept = tt in
    proved_at 𝓛 En hs c 𝓜 𝓡 tt #self fn (code.unfolded 𝓤 H 𝓜 𝓡 wired) (λ z are.
    let Post : Val → SProp 𝓤 = (walk_of 𝓛 En hs c).post z in let r : home_block.the_row.Denot = record { at = null_ptr; state = None } in
    let Told : Type 0 = r.state ≡ None in
    qed 𝓛 ((raw (alive 𝓛 En.signature z.0.0 z.0.1) ⊛ ‵ (owns (types_at En.signature.params z.0.0) z.0.3 z.0.4)) ∷ raw ((c z.0.0 z.0.3).requires z.1) ∷ []) ∵ split ! $ keep ! (0 ∷ []) $
    enter ! 𝓣.C 𝓣.Λ fn [] Post $ alloc_all ! (λ l. pass_all ! refl tt $ let Ev = env fn.locals l in
    sets ! (agg ! (and_then ! (lit ! tt) (no_more !))) refl (word_typed null_ptr) $
    returns ! (look_at ! 0 refl) $ free_all ! refl $
    nothing ! $ use0 𝓛 (‵ (word_own null_ptr (word_val null_ptr ∷ []))) (word_made 𝓛 null_ptr) $ fjoin ! $
    use0 𝓛 (raw (fact 𝓤 Told)) (fact_i 𝓤 Told (emp 𝓤) refl) $ nothing ! $ keep ! (3 ∷ 0 ∷ 2 ∷ 1 ∷ []) $ by ! (leaves 𝓛 En hs c z (word_val null_ptr) r tt tt)))
