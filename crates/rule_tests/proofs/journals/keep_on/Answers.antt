use Rattle.rule_tests.proofs.Prelude.{IsStateOf, Kind, List, rules, subst, sym, ◌≡◌}
use Rattle.rule_tests.proofs.OneLamp.{lamp}
use Rattle.rule_tests.proofs.journals.keep_on.Goals as goal

pub keep-requires-clause-home : goal.keep-requires-clause-home
keep-requires-clause-home c =
    let kinds : c.in-Ok.journal.kinds ≡ lamp = search rules in
    subst (λ (ks : List Kind). IsStateOf ks c.args.home.now.devices.items) (sym kinds) c.requires.home
