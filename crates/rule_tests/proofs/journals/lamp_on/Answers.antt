use Rattle.rule_tests.proofs.OneLamp.{lamp_is_on, on}
use Rattle.rule_tests.proofs.journals.lamp_on.Goals as goal
use Rattle.rule_tests.proofs.Prelude.{rules, ◌≡◌}

pub returns : goal.returns
returns c =
    let stands : c.in_ok-devices.devices.items ≡ on = search rules in
    lamp_is_on _ stands
