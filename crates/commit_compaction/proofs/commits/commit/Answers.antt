use Rattle.commit_compaction.proofs.Keeping.{commit_stands}
use Rattle.commit_compaction.proofs.commits.commit.Goals as goal
use Rattle.lineage_table.proofs.Cited.{changed_all, changed_more, changed_none, commits_nothing}
use Rattle.lineage_table.specs.Lineages.{committed_lineage, lineage_at, stand_of_lineage}
use Rattle.std.proofs.Common.{ap, ◌-◌, ◌∙◌}

pub devices-init : goal.devices-init
devices-init c = changed_none (λ d. committed_lineage c.args.r.0) c.args.table.now

pub devices-preserved : goal.devices-preserved
devices-preserved c =
    changed_more c.args.r.0 (λ d. committed_lineage c.args.r.0) (λ d. commits_nothing c.args.r.0) c.args.table.now c.devices.table c.devices.from.0
    c.devices.invariant c.in-Some.d.0 c.commit_on.new.table c.in-Some.ensures.next.0 c.in-Some.ensures.homed c.in-Some.ensures.next.2 c.commit_on.ensures

pub returns-clause-devices : goal.returns-clause-devices
returns-clause-devices c = c.devices.invariant.devices

pub returns-clause-exact : goal.returns-clause-exact
returns-clause-exact c = λ d within. changed_all c.args.r.0 (λ d. committed_lineage c.args.r.0) (λ d. commits_nothing c.args.r.0) c.args.table.now c.devices.table c.devices.from.0 c.devices.invariant c.in_default.ensures.next d

pub returns-clause-stands : goal.returns-clause-stands
returns-clause-stands c = λ d within.
    ap stand_of_lineage (changed_all c.args.r.0 (λ d. committed_lineage c.args.r.0) (λ d. commits_nothing c.args.r.0) c.args.table.now c.devices.table c.devices.from.0 c.devices.invariant c.in_default.ensures.next d)
    ∙ commit_stands c.args.r (lineage_at c.args.table.now d) (c.kept_invariant.ensures d)
