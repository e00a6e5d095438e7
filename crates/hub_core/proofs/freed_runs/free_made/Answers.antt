use Rattle.hub_core.proofs.freed_runs.free_made.Goals as goal
use Rattle.hub_core.proofs.Prelude.{OpenHub, ap, inr, is_quiet, list_all, sym, ◌∙◌}

pub returns : goal.returns
returns g c = record {
  marked = c.free_each.ensures.marked;
  there = λ r d is before.
      let left = c.free_each.ensures.there r d is before in
      (inr (ap (λ (s : OpenHub g.row.D.Denot). list_all (is_quiet s.setting d) c.args.made.now) (sym c.window.view_is) ∙ left.0), left.1);
}
