use Rattle.home_journal.proofs.Scanning.{knows_all, knows_short, knows_shut, scanned_bad, scanned_first, scanned_next}
use Rattle.slot_disks.proofs.Cited.{ends_all, ends_short, ends_shut, to_shut_missing, to_shut_open}
use Rattle.home_journal.proofs.scans.scan.Goals as goal
use Rattle.home_journal.proofs.Prelude.{arith, get_or, refl, rules, true, ◌<◌, ◌≡◌, ◌≢◌}

pub slots-init : goal.slots-init
slots-init c = (scanned_first _ _ _ _, c.requires.blank)

pub returns-in_default-clause-found : goal.returns-in_default-clause-found
returns-in_default-clause-found c =
    let more : c.slots.place < c.args.layout.most = search rules in
    (ends_short _ c.args.layout.most _ _ _ c.slots.rest.now c.slots.invariant.0.scanned (omega (arith, more)) (omega (arith, c.in_default.len_below)) (to_shut_missing c.slots.rest.now (omega (arith, c.in_default.len_below)))).0

pub returns-in_default-clause-good : goal.returns-in_default-clause-good
returns-in_default-clause-good c =
    let more : c.slots.place < c.args.layout.most = search rules in
    knows_short _ _ c.args.layout.most _ _ c.slots.rest.now _ c.slots.invariant.0 c.requires.size (omega (arith, more)) (omega (arith, c.in_default.len_below)) (to_shut_missing c.slots.rest.now (omega (arith, c.in_default.len_below)))

pub returns-then-gate-ne1-clause-found : goal.returns-then-gate-ne1-clause-found
returns-then-gate-ne1-clause-found c =
    let more : c.slots.place < c.args.layout.most = search rules in
    let shut : get_or c.slots.rest.now 0 0 ≢ 1 = search rules in
    (ends_shut _ c.args.layout.most _ _ _ c.slots.rest.now c.slots.invariant.0.scanned (omega (arith, more)) (omega (arith, c.in-len1-up.len_at_least)) shut).0

pub returns-then-gate-ne1-clause-good : goal.returns-then-gate-ne1-clause-good
returns-then-gate-ne1-clause-good c =
    let more : c.slots.place < c.args.layout.most = search rules in
    let shut : get_or c.slots.rest.now 0 0 ≢ 1 = search rules in
    knows_shut _ _ c.args.layout.most _ _ c.slots.rest.now _ c.slots.invariant.0 c.requires.size (omega (arith, more)) (omega (arith, c.in-len1-up.len_at_least)) shut

pub returns-then-behind-size-clause-found : goal.returns-then-behind-size-clause-found
returns-then-behind-size-clause-found c =
    let more : c.slots.place < c.args.layout.most = search rules in
    (ends_short _ c.args.layout.most _ _ _ c.slots.rest.now c.slots.invariant.0.scanned (omega (arith, more)) (omega (arith, c.in-len1-up.len_at_least, c.if-behind-size.true)) (to_shut_open c.slots.rest.now (omega (arith, c.in-len1-up.len_at_least)) (search rules))).0

pub returns-then-behind-size-clause-good : goal.returns-then-behind-size-clause-good
returns-then-behind-size-clause-good c =
    let more : c.slots.place < c.args.layout.most = search rules in
    knows_short _ _ c.args.layout.most _ _ c.slots.rest.now _ c.slots.invariant.0 c.requires.size (omega (arith, more)) (omega (arith, c.in-len1-up.len_at_least, c.if-behind-size.true)) (to_shut_open c.slots.rest.now (omega (arith, c.in-len1-up.len_at_least)) (search rules))

pub returns-then-not-read_state-clause-damaged : goal.returns-then-not-read_state-clause-damaged
returns-then-not-read_state-clause-damaged c =
    let more : c.slots.place < c.args.layout.most = search rules in
    let is_open : get_or c.slots.rest.now 0 0 ≡ 1 = search rules in
    scanned_bad c.args.kinds.now c.args.layout.size c.args.layout.most c.slots.place c.args.bytes.now c.slots.rest.now _ c.slots.last.devices.items
    c.slots.invariant.0 (omega (arith, c.in-len1-up.len_at_least)) is_open refl (omega (arith, c.if-behind-size.false)) c.requires.size more
    (c.read_state.ensures.bad (search rules))

pub slots-preserved : goal.slots-preserved
slots-preserved c =
    let is_open : get_or c.slots.rest.now 0 0 ≡ 1 = search rules in
    let good : c.read_state.result ≡ true = search rules in (
      scanned_next c.args.kinds.now c.args.layout.size c.args.layout.most c.slots.place c.args.bytes.now c.slots.rest.now _ c.slots.last.devices.items c.slots.invariant.0 (omega (arith, c.in-len1-up.len_at_least)) is_open refl (omega (arith, c.if-behind-size.false)) _ (c.read_state.ensures.good good),
      c.read_state.ensures.devices,
    )

pub returns-clause-found : goal.returns-clause-found
returns-clause-found c =
    let all : c.slots.place ≡ c.args.layout.most = omega (arith, c.slots-test.false, c.slots.auto.place-end) in
    (ends_all _ c.args.layout.most _ _ _ c.slots.rest.now c.slots.invariant.0.scanned all).0

pub returns-clause-good : goal.returns-clause-good
returns-clause-good c =
    let all : c.slots.place ≡ c.args.layout.most = omega (arith, c.slots-test.false, c.slots.auto.place-end) in
    knows_all _ _ c.args.layout.most _ _ c.slots.rest.now _ c.slots.invariant.0 c.requires.size all
