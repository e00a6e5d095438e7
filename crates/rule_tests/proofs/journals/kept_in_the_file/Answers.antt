use Rattle.rule_tests.proofs.Prelude.{IsStateOf, Kind, List, rules, subst, sym, ◌≡◌}
use Rattle.rule_tests.proofs.OneLamp.{lamp}
use Rattle.rule_tests.proofs.journals.kept_in_the_file.Goals as goal

pub keep-requires-clause-home : goal.keep-requires-clause-home
keep-requires-clause-home g c =
    let kinds : c.in-Ok.journal.kinds ≡ lamp = search rules in
    subst (λ (ks : List Kind). IsStateOf ks c.in-Ok-Ok.home.devices.items) (sym kinds) c.in-Ok-Ok.ensures'
