use Rattle.call_log.proofs.Scanning.{read_bad, read_next, reads_all, reads_short, reads_shut}
use Rattle.call_log.proofs.scans.scan.Goals as goal
use Rattle.slot_disks.proofs.Cited.{ends_all, ends_short, ends_shut, to_shut_missing, to_shut_open}
use Rattle.slot_disks.specs.SlotFiles.{IsFound}
use Rattle.std.proofs.Common.{arith, false, get_or, refl, rules, subst, sym, ◌+◌, ◌<◌, ◌≡◌, ◌≢◌}

pub returns-in_default-clause-found : goal.returns-in_default-clause-found
returns-in_default-clause-found c =
    let more : c.slots.place < c.args.most + 1 = search rules in
    (ends_short 24 (c.args.most + 1) _ _ _ c.slots.rest.now c.slots.invariant.scanned (omega (arith, more)) (omega (arith, c.in_default.len_below)) (to_shut_missing c.slots.rest.now (omega (arith, c.in_default.len_below)))).0

pub returns-in_default-clause-read : goal.returns-in_default-clause-read
returns-in_default-clause-read c =
    let more : c.slots.place < c.args.most + 1 = search rules in
    reads_short _ (c.args.most + 1) _ _ c.slots.rest.now _ c.slots.invariant (omega (arith, more)) (omega (arith, c.in_default.len_below)) (to_shut_missing c.slots.rest.now (omega (arith, c.in_default.len_below)))

pub returns-then-gate-ne1-clause-found : goal.returns-then-gate-ne1-clause-found
returns-then-gate-ne1-clause-found c =
    let more : c.slots.place < c.args.most + 1 = search rules in
    let shut : get_or c.slots.rest.now 0 0 ≢ 1 = search rules in
    (ends_shut 24 (c.args.most + 1) _ _ _ c.slots.rest.now c.slots.invariant.scanned (omega (arith, more)) (omega (arith, c.in-len1-up.len_at_least)) shut).0

pub returns-then-gate-ne1-clause-read : goal.returns-then-gate-ne1-clause-read
returns-then-gate-ne1-clause-read c =
    let more : c.slots.place < c.args.most + 1 = search rules in
    let shut : get_or c.slots.rest.now 0 0 ≢ 1 = search rules in
    reads_shut _ (c.args.most + 1) _ _ c.slots.rest.now _ c.slots.invariant (omega (arith, more)) (omega (arith, c.in-len1-up.len_at_least)) shut

pub returns-then-after-le-CALL_SIZE-clause-found : goal.returns-then-after-le-CALL_SIZE-clause-found
returns-then-after-le-CALL_SIZE-clause-found c =
    let more : c.slots.place < c.args.most + 1 = search rules in
    (ends_short 24 (c.args.most + 1) _ _ _ c.slots.rest.now c.slots.invariant.scanned (omega (arith, more)) (omega (arith, c.in-len1-up.len_at_least, c.if-after-le-CALL_SIZE.true)) (to_shut_open c.slots.rest.now (omega (arith, c.in-len1-up.len_at_least)) (search rules))).0

pub returns-then-after-le-CALL_SIZE-clause-read : goal.returns-then-after-le-CALL_SIZE-clause-read
returns-then-after-le-CALL_SIZE-clause-read c =
    let more : c.slots.place < c.args.most + 1 = search rules in
    reads_short _ (c.args.most + 1) _ _ c.slots.rest.now _ c.slots.invariant (omega (arith, more)) (omega (arith, c.in-len1-up.len_at_least, c.if-after-le-CALL_SIZE.true)) (to_shut_open c.slots.rest.now (omega (arith, c.in-len1-up.len_at_least)) (search rules))

pub returns-in-Err-clause-refused : goal.returns-in-Err-clause-refused
returns-in-Err-clause-refused c not_memory =
    let more : c.slots.place < c.args.most + 1 = search rules in
    let is_open : get_or c.slots.rest.now 0 0 ≡ 1 = search rules in
    read_bad c.args.head c.slots.place c.args.bytes.now c.slots.rest.now _ c.slots.calls.items c.slots.invariant (omega (arith, c.in-len1-up.len_at_least)) is_open refl (omega (arith, c.if-after-le-CALL_SIZE.false)) (c.args.most + 1) _ more (c.in-Err.ensures.refused not_memory)

pub slots-preserved : goal.slots-preserved
slots-preserved c =
    let is_open : get_or c.slots.rest.now 0 0 ≡ 1 = search rules in
    read_next c.args.head c.slots.place c.args.bytes.now c.slots.rest.now _ c.slots.calls.items c.slots.invariant (omega (arith, c.in-len1-up.len_at_least)) is_open refl (omega (arith, c.if-after-le-CALL_SIZE.false)) _ _ refl c.in-Ok.ensures.read

pub returns-clause-found : goal.returns-clause-found
returns-clause-found c =
    let all : c.slots.place ≡ c.args.most + 1 = omega (arith, c.slots-test.false, c.slots.auto.place-end, c.from-slots.ensures) in
    subst (λ n. IsFound 24 (c.args.most + 1) c.args.bytes.now (record { count = n + 1; is_shut = false })) (sym c.from-slots.ensures) (ends_all 24 (c.args.most + 1) _ _ _ c.slots.rest.now c.slots.invariant.scanned all).0

pub returns-clause-read : goal.returns-clause-read
returns-clause-read c =
    let all : c.slots.place ≡ c.args.most + 1 = omega (arith, c.slots-test.false, c.slots.auto.place-end, c.from-slots.ensures) in
    reads_all _ (c.args.most + 1) _ _ c.slots.rest.now _ c.slots.invariant all
