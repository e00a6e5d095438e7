use Rattle.history_book.proofs.KnownRuns.{answer_fits, comes_back, length_noted, noted_along, place_before, stays_along}
use Rattle.history_book.proofs.books.Book.push.Goals as goal
use Rattle.history_book.proofs.Prelude.{List, RunProgress, [], ap, arith, length, noted, nothing_done, rules, slice_index_or, subst, sym, ◌++◌, ◌+◌, ◌-◌, ◌<◌, ◌^◌, ◌∙◌, ◌∷◌, ◌≡◌}

pub note-requires : goal.note-requires
note-requires c =
    let items : c.push-pushed.new.self.items ≡ c.self.inside.kept.items ++ c.args.kept ∷ [] = search rules in
    let low : length c.push-pushed.new.self.items < 2 ^ 64 = omega (arith, c.len-place.ensures) in
    subst (λ (ps : List RunProgress). c.in-Some.r.0 < length ps → (slice_index_or ps c.in-Some.r.0 nothing_done).answered + 1 < 2 ^ 64) (sym c.as_mut_slice.ensures.value)
    (answer_fits c.self.inside.kept c.push-pushed.new.self.items c.args.kept c.self.inside.progress.items c.in-Some.r.0 (2 ^ 64) items c.self.invariant low)

pub invariant_of-self : goal.invariant_of-self
invariant_of-self c =
    let items : c.push-pushed.new.self.items ≡ c.self.inside.kept.items ++ c.args.kept ∷ [] = search rules in
    let left : c.push-pushed.new.self.spare + 1 ≡ c.self.inside.kept.spare = search rules in
    let value = c.as_mut_slice.ensures.value in
    let noted = c.note.ensures ∙ ap (λ ps. noted c.in-Some.r.0 c.args.kept.entry (c.len-place.result - 1) ps) value ∙ ap (λ n. noted c.in-Some.r.0 c.args.kept.entry n c.self.inside.progress.items) (place_before _ _ _ _ items c.len-place.ensures) in
    let long = ap length noted ∙ length_noted c.self.inside.progress.items c.in-Some.r.0 (length c.self.inside.kept.items) c.args.kept.entry in
    noted_along _ _ c.args.kept c.in-Some.r c.self.inside.progress.items _ items left (sym c.run.ensures ∙ c.in-Some.is) (comes_back c.self.inside.progress.items c.note.new.progress _ (sym c.as_mut_slice.ensures.len ∙ ap length value) long ∙ noted) c.self.invariant

pub invariant_of-self-in_default : goal.invariant_of-self-in_default
invariant_of-self-in_default c =
    let items : c.push-pushed.new.self.items ≡ c.self.inside.kept.items ++ c.args.kept ∷ [] = search rules in
    let left : c.push-pushed.new.self.spare + 1 ≡ c.self.inside.kept.spare = search rules in
    stays_along _ _ c.args.kept _ items left (search rules) c.self.invariant
