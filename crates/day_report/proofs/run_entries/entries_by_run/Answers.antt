use Rattle.day_report.proofs.run_entries.entries_by_run.Goals as goal
use Rattle.day_report.proofs.Prelude.{AreApart, subst, sym, take, take_more, ◌∙◌}

pub entries-preserved : goal.entries-preserved
entries-preserved c =
    let history = c.args.history.now in
    let i = c.entries.kept-index in
    record {
      size = c.put_to_run.ensures.runs ∙ c.entries.invariant.size;
      apart = subst (λ h. AreApart c.put_to_run.new.parts.items h) (sym (take_more history i _ c.entries-test.true)) (c.in_ok-put_to_run.ensures.apart (take i history) c.entries.invariant.apart);
    }
