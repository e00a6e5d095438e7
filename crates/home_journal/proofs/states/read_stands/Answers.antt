use Rattle.home_journal.proofs.StateBytes.{IsReadTo, read_all, read_bad, read_first, read_next, read_short}
use Rattle.home_journal.proofs.states.read_stands.Goals as goal
use Rattle.home_journal.proofs.Prelude.{States, arith, drop, false, inl, inr, length, rules, subst, sym, take, true, ◌+◌, ◌-◌, ◌<◌, ◌∙◌, ◌≡◌}

pub devices-init : goal.devices-init
devices-init c = (read_first _ _ _, c.requires.devices)

pub returns-in_default-clause-bad : goal.returns-in_default-clause-bad
returns-in_default-clause-bad c _ =
    let within : c.devices.at < length c.args.kinds.now = search rules in
    read_short _ _ c.devices.rest.now c.devices.at _ c.devices.invariant.0 within (omega (arith, c.in_default.len_below))

pub returns-then-not-has-clause-bad : goal.returns-then-not-has-clause-bad
returns-then-not-has-clause-bad c _ =
    let within : c.devices.at < length c.args.kinds.now = search rules in
    let not : c.has.result ≡ false = search rules in
    read_bad _ _ c.devices.rest.now c.devices.at _ _ _ c.devices.invariant.0 within (omega (arith, c.in-len5-up.len_at_least)) c.from_le_bytes-value.ensures (inl (sym c.has.ensures ∙ not))

pub returns-then-up-gt1-clause-bad : goal.returns-then-up-gt1-clause-bad
returns-then-up-gt1-clause-bad c _ =
    let within : c.devices.at < length c.args.kinds.now = search rules in
    read_bad _ _ c.devices.rest.now c.devices.at _ (States 0) _ c.devices.invariant.0 within (omega (arith, c.in-len5-up.len_at_least)) c.from_le_bytes-value.ensures (inr (omega (arith, c.if-up-gt1.true)))

pub devices-preserved : goal.devices-preserved
devices-preserved c =
    let within : c.devices.at < length c.args.kinds.now = search rules in
    let has : c.has.result ≡ true = search rules in
    let rest = c.devices.rest.now in
    let next = read_next _ _ rest c.devices.at _ _ _ c.devices.invariant.0 within c.devices.invariant.1 (omega (arith, c.in-len5-up.len_at_least)) c.from_le_bytes-value.ensures (sym c.has.ensures ∙ has) (omega (arith, c.if-up-gt1.false)) in (
      subst (λ home. IsReadTo c.args.kinds.now c.args.stands.now (c.devices.at + 1) (take (length rest - 5) (drop 5 rest)) home) (sym c.set.ensures.items) next,
      search rules,
    )

pub returns-clause-good : goal.returns-clause-good
returns-clause-good c _ =
    let all : c.devices.at ≡ length c.args.kinds.now = omega (arith, c.devices-test.false, c.devices.auto.at-end) in
    read_all _ _ c.devices.rest.now c.devices.at _ c.devices.invariant.0 all c.devices.invariant.1
