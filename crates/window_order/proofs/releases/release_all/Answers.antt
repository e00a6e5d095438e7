use Rattle.window_order.proofs.PassedRuns.{dooms_nothing}
use Rattle.window_order.proofs.releases.release_all.Goals as goal
use Rattle.window_order.proofs.Prelude.{changed_all, changed_more, changed_none, doomed_unless}

pub devices-init : goal.devices-init
devices-init c = changed_none (doomed_unless c.args.out c.args.r.0) c.args.table.now

pub devices-preserved : goal.devices-preserved
devices-preserved c =
    changed_more c.args.r.0 (doomed_unless c.args.out c.args.r.0) (dooms_nothing c.args.out c.args.r.0) c.args.table.now c.devices.table c.devices.from.0
    c.devices.invariant c.in-Some.d.0 c.release_on.new.table c.in-Some.ensures.next.0 c.in-Some.ensures.homed c.in-Some.ensures.next.2 c.release_on.ensures

pub returns : goal.returns
returns c = record {
  devices = c.devices.invariant.devices;
  each = λ d below. changed_all c.args.r.0 (doomed_unless c.args.out c.args.r.0) (dooms_nothing c.args.out c.args.r.0) c.args.table.now c.devices.table c.devices.from.0 c.devices.invariant c.in_default.ensures.next d;
}
