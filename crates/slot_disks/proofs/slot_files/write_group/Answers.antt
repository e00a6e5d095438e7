use Rattle.slot_disks.proofs.Groups.{at_gate, at_staged, both_ok, ends_settled, first_run, group_written, second_run, staged_by}
use Rattle.slot_disks.proofs.Moments.{then_on, weaker}
use Rattle.slot_disks.proofs.slot_files.write_group.Goals as goal
use Rattle.slot_disks.proofs.Prelude.{IsOldOrAll, arith, open_slots, refl, ◌*◌, ◌+◌}

pub write_synced-requires-clause-at : goal.write_synced-requires-clause-at
write_synced-requires-clause-at g c told =
    let s = c.requires.settled told in
    let slots = s.slots c.requires.next in
    let size = c.args.layout.size in
    let most = c.args.layout.most in
    let count = c.args.count in
    let after = c.args.after.now in
    let old = g.Q.Disk.seen c.args.disk.now in
    let bodies = open_slots size most old in
    omega (arith, at_gate size most count bodies slots.sizes s.counts c.requires.next old slots, c.gate_of-gate.ensures)

pub returns-in_err-write_synced-clause-any_moment : goal.returns-in_err-write_synced-clause-any_moment
returns-in_err-write_synced-clause-any_moment g c told more is_group =
    let s = c.requires.settled told in
    let slots = s.slots c.requires.next in
    let size = c.args.layout.size in
    let most = c.args.layout.most in
    let count = c.args.count in
    let after = c.args.after.now in
    let old = g.Q.Disk.seen c.args.disk.now in
    let bodies = open_slots size most old in
    weaker g.Q.Disk.moment g.Q.Disk.images_since c.args.disk.now c.write_synced.new.disk _ (IsOldOrAll size most bodies more)
    (λ d torn. first_run size most count bodies slots.sizes s.counts c.requires.next more old d _ _ slots c.gate_of-gate.ensures torn)
    (c.write_synced.ensures.any_moment told)

pub write_synced-requires-2-clause-at : goal.write_synced-requires-2-clause-at
write_synced-requires-2-clause-at g c told =
    let s = c.requires.settled told in
    let slots = s.slots c.requires.next in
    let size = c.args.layout.size in
    let most = c.args.layout.most in
    let count = c.args.count in
    let after = c.args.after.now in
    let old = g.Q.Disk.seen c.args.disk.now in
    let bodies = open_slots size most old in
    let mid = g.Q.Disk.seen c.write_synced.new.disk in
    let staged = staged_by size most count bodies slots.sizes s.counts c.requires.next after old mid _ slots c.gate_of-gate.ensures (c.in_ok-write_synced.ensures.written told) in
    omega (arith, at_staged size most count bodies slots.sizes s.counts c.requires.next after mid staged, c.gate_of-gate.ensures)

pub returns-clause-added : goal.returns-clause-added
returns-clause-added g c told =
    let s = c.requires.settled told in
    let slots = s.slots c.requires.next in
    let size = c.args.layout.size in
    let most = c.args.layout.most in
    let count = c.args.count in
    let after = c.args.after.now in
    let old = g.Q.Disk.seen c.args.disk.now in
    let bodies = open_slots size most old in
    let mid = g.Q.Disk.seen c.write_synced.new.disk in
    let staged = staged_by size most count bodies slots.sizes s.counts c.requires.next after old mid _ slots c.gate_of-gate.ensures (c.in_ok-write_synced.ensures.written told) in
    both_ok c.write_synced-2.result _ _ _ (c.write_synced-2.ensures.written told) (c.write_synced-2.ensures.durable told)
    (λ holds only more is_group. (ends_settled size most count bodies slots.sizes s.counts c.requires.next more after is_group c.requires.room mid _ _ _ (g.Q.Disk.images c.write_synced-2.new.disk) staged c.gate_of-gate.ensures refl holds only).0)

pub returns-clause-settled : goal.returns-clause-settled
returns-clause-settled g c told =
    let s = c.requires.settled told in
    let slots = s.slots c.requires.next in
    let size = c.args.layout.size in
    let most = c.args.layout.most in
    let count = c.args.count in
    let after = c.args.after.now in
    let old = g.Q.Disk.seen c.args.disk.now in
    let bodies = open_slots size most old in
    let mid = g.Q.Disk.seen c.write_synced.new.disk in
    let staged = staged_by size most count bodies slots.sizes s.counts c.requires.next after old mid _ slots c.gate_of-gate.ensures (c.in_ok-write_synced.ensures.written told) in
    both_ok c.write_synced-2.result _ _ _ (c.write_synced-2.ensures.written told) (c.write_synced-2.ensures.durable told)
    (λ holds only more is_group. (ends_settled size most count bodies slots.sizes s.counts c.requires.next more after is_group c.requires.room mid _ _ _ (g.Q.Disk.images c.write_synced-2.new.disk) staged c.gate_of-gate.ensures refl holds only).1)

pub returns-clause-any_moment : goal.returns-clause-any_moment
returns-clause-any_moment g c told more is_group =
    let s = c.requires.settled told in
    let slots = s.slots c.requires.next in
    let size = c.args.layout.size in
    let most = c.args.layout.most in
    let count = c.args.count in
    let after = c.args.after.now in
    let old = g.Q.Disk.seen c.args.disk.now in
    let bodies = open_slots size most old in
    let mid = g.Q.Disk.seen c.write_synced.new.disk in
    let staged = staged_by size most count bodies slots.sizes s.counts c.requires.next after old mid _ slots c.gate_of-gate.ensures (c.in_ok-write_synced.ensures.written told) in
    let P = IsOldOrAll size most bodies more in
    let first = weaker g.Q.Disk.moment g.Q.Disk.images_since c.args.disk.now c.write_synced.new.disk _ P
    (λ d torn. first_run size most count bodies slots.sizes s.counts c.requires.next more old d _ _ slots c.gate_of-gate.ensures torn)
    (c.write_synced.ensures.any_moment told) in
    let second = weaker g.Q.Disk.moment g.Q.Disk.images_since c.write_synced.new.disk c.write_synced-2.new.disk _ P
    (λ d torn. second_run size most count bodies slots.sizes s.counts c.requires.next more after is_group c.requires.room mid d _ staged c.gate_of-gate.ensures torn)
    (c.write_synced-2.ensures.any_moment told) in
    then_on g.Q.Disk.moment g.Q.Disk.images_since c.args.disk.now c.write_synced.new.disk c.write_synced-2.new.disk P first second

pub returns-clause-written : goal.returns-clause-written
returns-clause-written g c told =
    let s = c.requires.settled told in
    let slots = s.slots c.requires.next in
    let size = c.args.layout.size in
    let most = c.args.layout.most in
    let count = c.args.count in
    let after = c.args.after.now in
    let old = g.Q.Disk.seen c.args.disk.now in
    let bodies = open_slots size most old in
    let inside = at_gate size most count bodies slots.sizes s.counts c.requires.next old slots in
    both_ok c.write_synced-2.result _ _ _ (c.write_synced-2.ensures.written told) (c.write_synced-2.ensures.durable told)
    (λ holds only. group_written (count * (size + 1)) c.gate_of-gate.result after old (g.Q.Disk.seen c.write_synced.new.disk) (g.Q.Disk.seen c.write_synced-2.new.disk) (omega (arith, inside)) c.gate_of-gate.ensures (c.in_ok-write_synced.ensures.written told) holds)
