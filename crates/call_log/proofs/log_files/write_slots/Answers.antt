use Rattle.call_log.proofs.Keeping.{after_gate}
use Rattle.call_log.proofs.log_files.write_slots.Goals as goal
use Rattle.slot_disks.specs.SlotFiles.{AddsGroup, LeavesGroup, SettlesGroup}
use Rattle.slot_disks.specs.Slots.{open_slots}
use Rattle.slot_disks.specs.declared.layouts.Layout.{Layout}
use Rattle.std.proofs.Common.{drop, length, subst, take, ◌+◌, ◌-◌}
use Rattle.std.specs.Prelude.{OnOk}

pub returns-clause-added : goal.returns-clause-added
returns-clause-added g c told =
    let group = c.args.group.now in
    let written = take (length group - 1) (drop 1 group) in
    let old = g.Q.Disk.seen c.args.disk.now in
    let new = g.Q.Disk.seen c.write_group.new.disk in
    let at = subst (λ (l : Layout). OnOk c.write_group.result (AddsGroup l.size l.most written old new)) c.layout_of.ensures (c.write_group.ensures.added told) in
    subst (λ after. OnOk c.write_group.result (AddsGroup 24 (c.args.most + 1) after old new)) (after_gate group) at

pub returns-clause-settled : goal.returns-clause-settled
returns-clause-settled g c told =
    let group = c.args.group.now in
    let written = take (length group - 1) (drop 1 group) in
    let new = c.write_group.new.disk in
    let at = subst (λ (l : Layout). OnOk c.write_group.result (SettlesGroup l.size l.most c.args.count written (g.Q.Disk.seen new) (g.Q.Disk.images new))) c.layout_of.ensures (c.write_group.ensures.settled told) in
    subst (λ after. OnOk c.write_group.result (SettlesGroup 24 (c.args.most + 1) c.args.count after (g.Q.Disk.seen new) (g.Q.Disk.images new))) (after_gate group) at

pub returns-clause-any_moment : goal.returns-clause-any_moment
returns-clause-any_moment g c told =
    let group = c.args.group.now in
    let written = take (length group - 1) (drop 1 group) in
    let old = c.args.disk.now in
    let new = c.write_group.new.disk in
    let at = subst (λ (l : Layout). LeavesGroup g.Q.Disk.moment g.Q.Disk.images_since l.size l.most written (open_slots l.size l.most (g.Q.Disk.seen old)) old new) c.layout_of.ensures (c.write_group.ensures.any_moment told) in
    subst (λ after. LeavesGroup g.Q.Disk.moment g.Q.Disk.images_since 24 (c.args.most + 1) after (open_slots 24 (c.args.most + 1) (g.Q.Disk.seen old)) old new) (after_gate group) at
