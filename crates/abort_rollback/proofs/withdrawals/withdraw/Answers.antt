use Rattle.abort_rollback.proofs.NextUndos.{nothing_effective}
use Rattle.abort_rollback.proofs.withdrawals.withdraw.Goals as goal
use Rattle.abort_rollback.proofs.Prelude.{accesses_at, ap, changed_all, changed_more, changed_none, effective_writer, lineage_at, not_writer, removed, removes_nothing, stand_of_lineage, without_stands, ◌∙◌}

pub devices-init : goal.devices-init
devices-init c = changed_none (λ d. removed c.args.r.0) c.args.table.now

pub devices-preserved : goal.devices-preserved
devices-preserved c =
    changed_more c.args.r.0 (λ d. removed c.args.r.0) (λ d. removes_nothing c.args.r.0) c.args.table.now c.devices.table c.devices.from.0 c.devices.invariant
    c.in-Some.d.0 c.remove.new.self c.in-Some.ensures.next.0 c.in-Some.ensures.homed c.in-Some.ensures.next.2 c.remove.ensures.left

pub returns-clause-devices : goal.returns-clause-devices
returns-clause-devices c = c.devices.invariant.devices

pub returns-clause-exact : goal.returns-clause-exact
returns-clause-exact c = λ d within. changed_all c.args.r.0 (λ d. removed c.args.r.0) (λ d. removes_nothing c.args.r.0) c.args.table.now c.devices.table c.devices.from.0 c.devices.invariant c.in_default.ensures.next d

pub returns-clause-stands : goal.returns-clause-stands
returns-clause-stands c = λ d within.
    ap stand_of_lineage (changed_all c.args.r.0 (λ d. removed c.args.r.0) (λ d. removes_nothing c.args.r.0) c.args.table.now c.devices.table c.devices.from.0 c.devices.invariant c.in_default.ensures.next d)
    ∙ without_stands c.args.r.0 (lineage_at c.args.table.now d).committed (accesses_at c.args.table.now d) (not_writer c.args.r (effective_writer (accesses_at c.args.table.now d)) (nothing_effective c.args.table.now c.args.r c.requires d within))
