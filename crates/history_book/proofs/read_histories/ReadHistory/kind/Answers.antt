use Rattle.history_book.proofs.Prelude.{ap, kind_at, unwrap_or, unwrap_or-slice_get, ◌∙◌}
use Rattle.home_types.specs.declared.kinds.Kind.TheVariants.{States}
use Rattle.history_book.proofs.read_histories.ReadHistory.kind.Goals as goal

pub returns-in-None : goal.returns-in-None
returns-in-None c =
    ap (λ o. unwrap_or o (States 0)) c.in-None.ensures ∙ unwrap_or-slice_get c.self.inside.kinds.items c.args.d.0 (States 0) ∙ ap (λ s. kind_at s.setting.kinds c.args.d.0) c.self.view_is
