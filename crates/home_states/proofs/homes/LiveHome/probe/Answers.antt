use Rattle.home_states.proofs.InOrder.{none_sent, probes_in_order}
use Rattle.home_states.proofs.Living.{never_moving}
use Rattle.home_states.proofs.Numbering.{probe_counted_on, probe_few}
use Rattle.home_states.proofs.homes.LiveHome.probe.Goals as goal
use Rattle.home_states.proofs.Prelude.{the_view}

pub unreachable-requires : goal.unreachable-requires
unreachable-requires c = never_moving _ c.self.invariant.live c.in-Moving.is

pub number_call-requires : goal.number_call-requires
number_call-requires c = record {
  few = probe_few (the_view c.self.inside) c.in-InWindow.field-0 c.in-InWindow.table c.probe-call.new.self c.args.d.0 c.probe-call.ensures.probed.0 c.probe-call.result
      c.self.invariant.live c.in-InWindow.is c.probe-call.ensures.probed.1 c.probe-call.ensures.window c.few.ensures.few c.probe-call.ensures.probed.2;
}

pub invariant_of-self : goal.invariant_of-self
invariant_of-self c =
    probe_counted_on (the_view c.self.inside) c.self.inside.tickets c.number_call.new.tickets c.in-InWindow.field-0 c.in-InWindow.table c.probe-call.new.self c.args.d.0 c.probe-call.ensures.probed.0 c.probe-call.result
    c.self.invariant c.in-InWindow.is c.probe-call.ensures.probed.1 c.probe-call.ensures.window c.probe-call.ensures.probed.2 c.number_call.ensures.count

pub returns-in-InWindow-clause-stood : goal.returns-in-InWindow-clause-stood
returns-in-InWindow-clause-stood c =
    probes_in_order (the_view c.self.inside) _ c.in-InWindow.field-0 c.self.inside.tickets_before c.in-InWindow.table c.probe-call.result c.number_call.result
    c.self.view_is c.in-InWindow.is c.probe-call.ensures.stood c.number_call.ensures.told

pub returns-in-InWindow-clause-sent : goal.returns-in-InWindow-clause-sent
returns-in-InWindow-clause-sent c =
    none_sent (the_view c.self.inside) _ c.in-InWindow.field-0 c.self.inside.tickets_before c.args.d.0 c.in-InWindow.table c.probe-call.new.self c.probe-call.ensures.probed.0 c.probe-call.result c.number_call.result
    c.self.view_is c.in-InWindow.is c.probe-call.ensures.probed.1 c.probe-call.ensures.probed.2 c.number_call.ensures.told
