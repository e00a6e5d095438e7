use Rattle.call_log.proofs.Keeping.{adds_calls, calls_group, group_size, keeps_calls}
use Rattle.call_log.proofs.call_files.write_calls.Goals as goal
use Rattle.call_log.specs.CallLogs.{KeepsCalls}
use Rattle.slot_disks.proofs.Cited.{weaker}
use Rattle.slot_disks.specs.SlotFiles.{IsSettled}
use Rattle.logged_calls.specs.CallBytes.{call_bytes}
use Rattle.std.proofs.Common.{arith, length, map, rules, subst, ◌+◌, ◌<◌, ◌≡◌, ◌∙◌}
use Rattle.std.proofs.lemmas.List.{length-map}

pub write_slots-requires-clause-room : goal.write_slots-requires-clause-room
write_slots-requires-clause-room g c =
    let is = c.as_slice.ensures.value ∙ c.push_reserved.ensures.items in
    omega (arith, group_size c.args.pending.now c.args.group.now.items c.as_slice.result.now c.requires.open.slots is, c.from.ensures, c.requires.open.few)

pub returns-in_err-write_slots-clause-any_moment : goal.returns-in_err-write_slots-clause-any_moment
returns-in_err-write_slots-clause-any_moment g c told calls was =
    let is = c.as_slice.ensures.value ∙ c.push_reserved.ensures.items in
    let some : 0 < length c.args.pending.now = search rules in
    let is_group = calls_group c.args.pending.now c.args.group.now.items c.as_slice.result.now some c.requires.open.slots is in
    let counts = (c.requires.open.settled told).counts in
    weaker g.Q.Disk.moment g.Q.Disk.images_since c.args.disk.now c.write_slots.new.disk _ (KeepsCalls c.args.head c.args.most calls c.args.pending.now)
    (λ d either. keeps_calls c.same_bytes.ensures.all c.args.head c.args.most c.args.kept c.args.pending.now (g.Q.Disk.seen c.args.disk.now) counts c.requires.open.loggable calls d was either)
    (c.write_slots.ensures.any_moment told (map call_bytes c.args.pending.now) is_group)

pub returns-clause-settled : goal.returns-clause-settled
returns-clause-settled g c told =
    let is = c.as_slice.ensures.value ∙ c.push_reserved.ensures.items in
    let some : 0 < length c.args.pending.now = search rules in
    let is_group = calls_group c.args.pending.now c.args.group.now.items c.as_slice.result.now some c.requires.open.slots is in
    let sum : c.from.result + 1 + length (map call_bytes c.args.pending.now) ≡ c.args.kept + length c.args.pending.now + 1 = omega (arith, c.from.ensures, length-map c.args.pending.now call_bytes) in
    subst (λ n. IsSettled 24 (c.args.most + 1) n (g.Q.Disk.seen c.write_slots.new.disk) (g.Q.Disk.images c.write_slots.new.disk)) sum
    (c.in_ok-write_slots.ensures.settled told (map call_bytes c.args.pending.now) is_group)

pub returns-clause-kept : goal.returns-clause-kept
returns-clause-kept g c told calls was =
    let is = c.as_slice.ensures.value ∙ c.push_reserved.ensures.items in
    let some : 0 < length c.args.pending.now = search rules in
    let is_group = calls_group c.args.pending.now c.args.group.now.items c.as_slice.result.now some c.requires.open.slots is in
    let counts = (c.requires.open.settled told).counts in
    adds_calls c.same_bytes.ensures.all c.args.head c.args.most c.args.kept c.args.pending.now (g.Q.Disk.seen c.args.disk.now) counts c.requires.open.loggable (g.Q.Disk.seen c.write_slots.new.disk)
    (c.in_ok-write_slots.ensures.added told (map call_bytes c.args.pending.now) is_group) calls was

pub returns-clause-any_moment : goal.returns-clause-any_moment
returns-clause-any_moment g c told calls was =
    let is = c.as_slice.ensures.value ∙ c.push_reserved.ensures.items in
    let some : 0 < length c.args.pending.now = search rules in
    let is_group = calls_group c.args.pending.now c.args.group.now.items c.as_slice.result.now some c.requires.open.slots is in
    let counts = (c.requires.open.settled told).counts in
    weaker g.Q.Disk.moment g.Q.Disk.images_since c.args.disk.now c.write_slots.new.disk _ (KeepsCalls c.args.head c.args.most calls c.args.pending.now)
    (λ d either. keeps_calls c.same_bytes.ensures.all c.args.head c.args.most c.args.kept c.args.pending.now (g.Q.Disk.seen c.args.disk.now) counts c.requires.open.loggable calls d was either)
    (c.write_slots.ensures.any_moment told (map call_bytes c.args.pending.now) is_group)
