use Rattle.slot_disks.proofs.Shutting.{settles_shut, shuts, shuts_at, stays_shut, torn_shut}
use Rattle.slot_disks.proofs.Moments.{weaker}
use Rattle.slot_disks.proofs.Groups.{both_ok}
use Rattle.slot_disks.proofs.slot_files.shut_gate.Goals as goal
use Rattle.slot_disks.proofs.slot_files.shut_gate.Goals.{then-found-via-else-found+then-found-layout, then-found-via-then-found}
use Rattle.slot_disks.proofs.Prelude.{Holds, Torn, [], arith, inl, inr, subst, ◌<◌, ◌∷◌}

pub write_synced-requires-clause-at : goal.write_synced-requires-clause-at
write_synced-requires-clause-at g c told =
    let room : c.args.found.count < c.args.layout.most = omega (arith, c.if-found-layout.false) in
    omega (arith, shuts_at c.args.layout.size c.args.layout.most (g.Q.Disk.seen c.args.disk.now) c.args.found (c.requires.found told) c.if-found.false room, c.gate_of.ensures)

pub returns-clause-settled : goal.returns-clause-settled
returns-clause-settled g c told =
    let room : c.args.found.count < c.args.layout.most = omega (arith, c.if-found-layout.false) in
    both_ok c.write_synced.result _ _ _ (c.write_synced.ensures.written told) (c.write_synced.ensures.durable told)
    (λ holds only. (settles_shut c.args.layout.size c.args.layout.most (g.Q.Disk.seen c.args.disk.now) c.args.found (c.requires.found told) c.if-found.false room (g.Q.Disk.seen c.write_synced.new.disk) (g.Q.Disk.images c.write_synced.new.disk)
    (subst (λ k. Holds (g.Q.Disk.seen c.args.disk.now) k (0 ∷ []) (g.Q.Disk.seen c.write_synced.new.disk)) c.gate_of.ensures holds) only).1)

pub returns-clause-same : goal.returns-clause-same
returns-clause-same g c told =
    let room : c.args.found.count < c.args.layout.most = omega (arith, c.if-found-layout.false) in
    both_ok c.write_synced.result _ _ _ (c.write_synced.ensures.written told) (c.write_synced.ensures.durable told)
    (λ holds only. (settles_shut c.args.layout.size c.args.layout.most (g.Q.Disk.seen c.args.disk.now) c.args.found (c.requires.found told) c.if-found.false room (g.Q.Disk.seen c.write_synced.new.disk) (g.Q.Disk.images c.write_synced.new.disk)
    (subst (λ k. Holds (g.Q.Disk.seen c.args.disk.now) k (0 ∷ []) (g.Q.Disk.seen c.write_synced.new.disk)) c.gate_of.ensures holds) only).0)

pub returns-clause-any_moment : goal.returns-clause-any_moment
returns-clause-any_moment g c told =
    let room : c.args.found.count < c.args.layout.most = omega (arith, c.if-found-layout.false) in
    let old = g.Q.Disk.seen c.args.disk.now in
    weaker g.Q.Disk.moment g.Q.Disk.images_since c.args.disk.now c.write_synced.new.disk _ _
    (λ d torn. torn_shut c.args.layout.size c.args.layout.most old c.args.found (c.requires.found told) c.if-found.false room d (subst (λ k. Torn k 1 old d) c.gate_of.ensures torn))
    (c.write_synced.ensures.any_moment told)

pub returns-clause-shut : goal.returns-clause-shut
returns-clause-shut g c told =
    let room : c.args.found.count < c.args.layout.most = omega (arith, c.if-found-layout.false) in
    both_ok c.write_synced.result _ _ _ (c.write_synced.ensures.written told) (c.write_synced.ensures.durable told)
    (λ holds only. shuts c.args.layout.size c.args.layout.most (g.Q.Disk.seen c.args.disk.now) c.args.found (c.requires.found told) c.if-found.false room (g.Q.Disk.seen c.write_synced.new.disk)
    (subst (λ k. Holds (g.Q.Disk.seen c.args.disk.now) k (0 ∷ []) (g.Q.Disk.seen c.write_synced.new.disk)) c.gate_of.ensures holds))

pub returns-then-found-clause-shut : goal.returns-then-found-clause-shut
returns-then-found-clause-shut g c told =
    let stays = stays_shut c.args.layout.size c.args.layout.most (g.Q.Disk.seen c.args.disk.now) c.args.found (c.requires.found told) in
    elim c.then-found.branch [ then-found-via-then-found w ↦ stays (inl w.if-found.true) | then-found-via-else-found+then-found-layout w ↦ stays (inr (omega (arith, w.if-found-layout.true))) ]
