use Rattle.call_log.proofs.Keeping.{of_ok}
use Rattle.call_log.proofs.Scanning.{front_slots}
use Rattle.call_log.proofs.log_files.prepare.Goals as goal
use Rattle.call_log.specs.KeptCalls.{calls_of}
use Rattle.call_log.specs.LogFiles.{IsRead}
use Rattle.slot_disks.proofs.Cited.{found_whole}
use Rattle.slot_disks.specs.SlotFiles.{IsFound}
use Rattle.slot_disks.specs.declared.layouts.Layout.{Layout}
use Rattle.std.proofs.Common.{ap, refl, subst, sym, ◌+◌, ◌∙◌}

pub shut_gate-requires-clause-found : goal.shut_gate-requires-clause-found
shut_gate-requires-clause-found g c told =
    let bytes = g.Q.Disk.seen c.args.disk.now in
    let cut = c.as_slice.ensures.value ∙ of_ok _ c.in-Ok.block _ c.in-Ok.is (c.in_ok-block.ensures.bytes told) in
    subst (λ (l : Layout). IsFound l.size l.most (g.Q.Disk.seen c.load.new.disk) c.in-Ok-scanned.found) (sym c.layout_of.ensures)
    (subst (λ seen. IsFound 24 (c.args.most + 1) seen c.in-Ok-scanned.found) (sym (c.load.ensures.reads told).same)
    (found_whole 24 (c.args.most + 1) _ _ bytes c.in-Ok-scanned.found refl cut c.in-Ok-scanned.ensures.found))

pub returns-in_ok-shut_gate-in-Ok-scanned-clause-read : goal.returns-in_ok-shut_gate-in-Ok-scanned-clause-read
returns-in_ok-shut_gate-in-Ok-scanned-clause-read g c told =
    let bytes = g.Q.Disk.seen c.args.disk.now in
    let cut = c.as_slice.ensures.value ∙ of_ok _ c.in-Ok.block _ c.in-Ok.is (c.in_ok-block.ensures.bytes told) in
    subst (λ bs. IsRead c.args.head bs c.scan-scanned.new.calls.items) (front_slots (c.args.most + 1) _ bytes cut) c.in-Ok-scanned.ensures.read

pub returns-in-Err-clause-refused : goal.returns-in-Err-clause-refused
returns-in-Err-clause-refused g c told not_memory =
    let bytes = g.Q.Disk.seen c.args.disk.now in
    let cut = c.as_slice.ensures.value ∙ of_ok _ c.in-Ok.block _ c.in-Ok.is (c.in_ok-block.ensures.bytes told) in
    ap (calls_of c.args.head) (sym (front_slots (c.args.most + 1) _ bytes cut)) ∙ c.in-Err.ensures.refused not_memory
