use Rattle.home_states.proofs.Prelude.{HandedDevice, OpenHub, configuration_of, length, subst, ◌≤◌}
use Rattle.home_states.proofs.Counting.{few_tickets}
use Rattle.home_states.proofs.numbers.few.Goals as goal

pub returns-clause-few : goal.returns-clause-few
returns-clause-few c few =
    few_tickets (configuration_of c.args.table.now) c.args.table.now.tickets few
    (subst (λ (h : OpenHub HandedDevice). length h.history ≤ 59904) c.hub-hub.ensures c.bounded.ensures.few_entries)
    (subst (λ (h : OpenHub HandedDevice). length h.setting.first ≤ 256) c.hub-hub.ensures c.kept_invariant.ensures.few_devices)
