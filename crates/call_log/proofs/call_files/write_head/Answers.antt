use Rattle.call_log.proofs.Keeping.{begins, begun, head_group}
use Rattle.call_log.proofs.call_files.write_head.Goals as goal
use Rattle.call_log.specs.CallLogs.{LeavesNone}
use Rattle.call_log.specs.Heads.{head_bytes}
use Rattle.slot_disks.proofs.Cited.{on_ok, weaker}
use Rattle.std.proofs.Common.{[], ap, ◌++◌, ◌∙◌, ◌∷◌}

pub returns-clause-settled : goal.returns-clause-settled
returns-clause-settled g c told =
    let body = c.put.ensures.items ∙ ap (λ l. c.push_reserved.new.self.items ++ l) c.bytes.ensures.bytes in
    let is = c.as_slice.ensures.value ∙ c.push_reserved-2.ensures.items in
    let is_group = head_group c.args.head c.args.group.now.items c.push_reserved.new.self.items c.put.new.bytes.items c.as_slice.result.now c.requires.empty c.push_reserved.ensures.items body is in
    on_ok c.write_slots-written.result _ _ (c.write_slots-written.ensures.settled told) (λ settles. settles (head_bytes c.args.head ∷ []) is_group)

pub returns-clause-none : goal.returns-clause-none
returns-clause-none g c told =
    let body = c.put.ensures.items ∙ ap (λ l. c.push_reserved.new.self.items ++ l) c.bytes.ensures.bytes in
    let is = c.as_slice.ensures.value ∙ c.push_reserved-2.ensures.items in
    let is_group = head_group c.args.head c.args.group.now.items c.push_reserved.new.self.items c.put.new.bytes.items c.as_slice.result.now c.requires.empty c.push_reserved.ensures.items body is in
    on_ok c.write_slots-written.result _ _ (c.write_slots-written.ensures.added told)
    (λ adds. begun c.args.head c.args.most (g.Q.Disk.seen c.args.disk.now) c.bytes.ensures.good (c.requires.settled told).counts (g.Q.Disk.seen c.write_slots-written.new.disk) (adds (head_bytes c.args.head ∷ []) is_group))

pub returns-clause-any_moment : goal.returns-clause-any_moment
returns-clause-any_moment g c told =
    let body = c.put.ensures.items ∙ ap (λ l. c.push_reserved.new.self.items ++ l) c.bytes.ensures.bytes in
    let is = c.as_slice.ensures.value ∙ c.push_reserved-2.ensures.items in
    let is_group = head_group c.args.head c.args.group.now.items c.push_reserved.new.self.items c.put.new.bytes.items c.as_slice.result.now c.requires.empty c.push_reserved.ensures.items body is in
    weaker g.Q.Disk.moment g.Q.Disk.images_since c.args.disk.now c.write_slots-written.new.disk _ (LeavesNone c.args.head c.args.most)
    (λ d either. begins c.args.head c.args.most (g.Q.Disk.seen c.args.disk.now) c.bytes.ensures.good (c.requires.settled told).counts d either)
    (c.write_slots-written.ensures.any_moment told (head_bytes c.args.head ∷ []) is_group)
