use Rattle.rule_tests.proofs.Prelude.{accesses_at, rules, ◌≡◌}
use Rattle.rule_tests.proofs.Unsealed.{none_sealed}
use Rattle.rule_tests.proofs.failures.fail.Goals as goal

pub device_failed-requires-clause-unsealed : goal.device_failed-requires-clause-unsealed
device_failed-requires-clause-unsealed c =
    let none : c.reserve.new.self.sealed ≡ 0 = search rules in
    none_sealed c.reserve.new.self none (accesses_at c.args.table.now c.args.d.0)
