use Rattle.hub_table.proofs.Prelude.{ap, kept_of, slice_get, ◌∙◌}
use Rattle.hub_table.proofs.Holding.{out_held}
use Rattle.hub_table.proofs.tables.Table.lent.Goals as goal

pub returns : goal.returns
returns g c = c.look.ensures ∙ out_held c.self.inside.hub.places c.self.inside.grips.items c.args.d.0 c.self.invariant ∙ ap (λ s. kept_of (slice_get s.places c.args.d.0)) c.self.view_is
