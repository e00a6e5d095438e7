use Rattle.lineage_table.proofs.Leaving.{all_leave, more_leave}
use Rattle.lineage_table.proofs.tables.take_out_through.Goals as goal
use Rattle.lineage_table.proofs.Prelude.{sym, ◌∙◌}

pub leaving-preserved : goal.leaving-preserved
leaving-preserved c =
    let i = c.leaving.invariant in
    more_leave c.args.r.0 c.args.d.0 c.args.accesses.now.pairs i.0 c.leaving.access-iterator c.next.new.self _ c.args.devices.now c.leaving.devices c.remove.new.self i.1 c.in-Some.ensures.steps i.2 i.3 c.remove.ensures (sym c.eq.ensures ∙ c.if-eq.false)

pub returns-then-eq : goal.returns-then-eq
returns-then-eq c =
    let i = c.leaving.invariant in
    all_leave c.args.r.0 c.args.d.0 c.args.accesses.now.pairs i.0 c.leaving.access-iterator c.next.new.self _ c.args.devices.now c.leaving.devices c.remove.new.self i.1 c.in-Some.ensures.steps i.2 i.3 c.remove.ensures (sym c.eq.ensures ∙ c.if-eq.true)
