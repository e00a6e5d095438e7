use Rattle.lineage_table.proofs.Prelude.{Scheduled, ap, arith, has_access, values_of, ◌∙◌}
use Rattle.lineage_table.proofs.Keeping.{found_by_status, scheduled_state, schedules}
use Rattle.lineage_table.proofs.Writers.{keeps_scheduled, nothing_written}
use Rattle.lineage_table.proofs.lineages.Lineage.schedule.Goals as goal

pub put_in-requires-clause-before : goal.put_in-requires-clause-before
put_in-requires-clause-before c = λ r is. ap (λ v. has_access r.0 v.accesses) c.self.view_is ∙ found_by_status r.0 c.args.self.now.accesses Scheduled (c.requires.before r is)

pub writer_of-self-inside-requires : goal.writer_of-self-inside-requires
writer_of-self-inside-requires c = λ stays.
    keeps_scheduled _ c.args.self.now c.self.inside.writer c.self.view_is c.self.invariant c.args.before c.args.access (values_of c.put_in.new.accesses.pairs) c.put_in.ensures.items (nothing_written c.args.access.wrote c.is_none-stays.result c.is_none-stays.ensures stays)

pub invariant_of-self : goal.invariant_of-self
invariant_of-self c = record {
  turns = schedules _ c.args.self.now c.args.before c.args.access (values_of c.put_in.new.accesses.pairs) c.self.view_is c.self.invariant.turns c.requires.before c.requires.scheduled c.requires.new c.put_in.ensures.items;
  last = c.writer_of-self-inside.ensures;
}

pub returns : goal.returns
returns c =
    scheduled_state _ c.args.self.now c.args.before _ c.args.access (values_of c.put_in.new.accesses.pairs) c.self.view_is c.put_in.ensures.items (omega (arith, c.put_in.ensures.spare))
