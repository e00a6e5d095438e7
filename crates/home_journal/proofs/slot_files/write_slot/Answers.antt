use Rattle.home_journal.proofs.StateBytes.{slot_fits, slot_written, state_group, state_size}
use Rattle.slot_disks.proofs.Cited.{on_ok}
use Rattle.home_journal.proofs.slot_files.write_slot.Goals as goal
use Rattle.slot_disks.specs.SlotFiles.{IsSettled}
use Rattle.home_journal.proofs.Prelude.{[], ap, arith, length, length-append, state_bytes, subst, with_group, ◌*◌, ◌+◌, ◌∙◌, ◌∷◌}

pub write_group-requires-clause-room : goal.write_group-requires-clause-room
write_group-requires-clause-room g c =
    let body = state_bytes (c.args.count + 1) c.args.home.now in
    let slot = c.as_slice.ensures.value ∙ c.fill_slot.ensures.bytes in
    omega (arith, slot_fits c.args.count c.args.layout.most c.args.layout.size c.requires.next, ap (λ n. n * (c.args.layout.size + 1)) c.from.ensures, ap length slot, length-append body (0 ∷ []), state_size (c.args.count + 1) c.args.home.now, c.requires.size)

pub returns-clause-kept : goal.returns-clause-kept
returns-clause-kept g c told =
    let slot = c.as_slice.ensures.value ∙ c.fill_slot.ensures.bytes in
    on_ok c.write_group.result _ _ (c.write_group.ensures.added told)
    (λ added. added (state_bytes (c.args.count + 1) c.args.home.now ∷ []) (state_group (c.args.count + 1) c.args.home.now c.args.layout.size _ c.requires.size slot))

pub returns-clause-written : goal.returns-clause-written
returns-clause-written g c told =
    let slot = c.as_slice.ensures.value ∙ c.fill_slot.ensures.bytes in
    on_ok c.write_group.result _ _ (c.write_group.ensures.written told)
    (λ written. written ∙ ap (λ n. with_group (n * (c.args.layout.size + 1)) c.as_slice.result.now (g.Q.Disk.seen c.args.disk.now)) c.from.ensures ∙ slot_written (c.args.count * (c.args.layout.size + 1)) (state_bytes (c.args.count + 1) c.args.home.now) _ (g.Q.Disk.seen c.args.disk.now) slot)

pub returns-clause-settled : goal.returns-clause-settled
returns-clause-settled g c told =
    let slot = c.as_slice.ensures.value ∙ c.fill_slot.ensures.bytes in
    on_ok c.write_group.result _ _ (c.write_group.ensures.settled told)
    (λ settled. subst (λ n. IsSettled c.args.layout.size c.args.layout.most (n + 1) (g.Q.Disk.seen c.write_group.new.disk) (g.Q.Disk.images c.write_group.new.disk)) c.from.ensures
    (settled (state_bytes (c.args.count + 1) c.args.home.now ∷ []) (state_group (c.args.count + 1) c.args.home.now c.args.layout.size _ c.requires.size slot)))

pub returns-clause-any_moment : goal.returns-clause-any_moment
returns-clause-any_moment g c told =
    let slot = c.as_slice.ensures.value ∙ c.fill_slot.ensures.bytes in
    c.write_group.ensures.any_moment told (state_bytes (c.args.count + 1) c.args.home.now ∷ []) (state_group (c.args.count + 1) c.args.home.now c.args.layout.size _ c.requires.size slot)
