use Rattle.history_book.proofs.Prelude.{IfSome, ap, is_run, option_copied, progress_in, progress_of, read_in, subst, ◌∙◌, ◌≡◌}
use Rattle.history_book.proofs.HistoryReads.{known_is, run_low}
use Rattle.history_book.proofs.read_histories.ReadHistory.progress.Goals as goal

pub unwrap-requires : goal.unwrap-requires
unwrap-requires c =
    let low = run_low _ _ c.args.r.0 c.self.invariant (ap (λ s. is_run s.setting.runs c.args.r.0) c.self.view_is ∙ c.requires) in
    c.known.ensures.there low.0 low.1

pub returns : goal.returns
returns c =
    let known = subst (λ o. IfSome (option_copied o) (λ p. p ≡ progress_in c.self.inside.book.items c.args.r.0)) c.unwrap.ensures c.known.ensures.known in
    known_is _ _ c.args.r.0 _ c.self.invariant known ∙ ap (λ s. progress_of ((read_in s).run c.args.r.0)) c.self.view_is
