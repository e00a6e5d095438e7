use Rattle.timeline_scheduler.proofs.Prelude.{WindowParts, ap, arith, changed, devices_among, length, runs_of, slot_waiting, sym, touches, waited_run, whole_passed, ◌∙◌}
use Rattle.timeline_scheduler.proofs.WriterWaits.{none_waiting, waits_for, waits_none}
use Rattle.timeline_scheduler.proofs.slots.Slots.wait_for_run.Goals as goal

pub wait_for_writer-requires-clause-homed : goal.wait_for_writer-requires-clause-homed
wait_for_writer-requires-clause-homed c = λ x d on.
    let size = ap length c.whole_end-whole.ensures.slots in
    let own = c.requires.size in
    let there = c.requires.homed x d (ap (λ (p : WindowParts). touches p.runs x d) (sym c.s.view_is) ∙ on) in
    omega (arith, size, own, there)

pub returns-in-None : goal.returns-in-None
returns-in-None c =
    waits_none c.args.s.now.runs c.args.r.0 c.args.x.0 (whole_passed c.args.s.now.table c.args.x.0) c.args.self.now
    (none_waiting c.args.s.now.runs c.args.r.0 c.args.x.0 c.first_reads_of-waiting.result (λ d. c.first_reads_of-waiting.ensures d ∙ ap (λ (p : WindowParts). waits_for p.runs c.args.r.0 c.args.x.0 d) c.s.view_is) 0 c.in-None.ensures)

pub returns-in-Some : goal.returns-in-Some
returns-in-Some c =
    let runs = runs_of c.s.inside.roster.now in
    c.wait_for_writer.ensures
    ∙ ap (λ ss. changed (slot_waiting runs c.args.r.0 c.args.x.0 c.whole_end-whole.result) (devices_among runs c.args.r.0 (length ss)) ss) c.whole_end-whole.ensures.slots
    ∙ ap (λ whole. changed (slot_waiting runs c.args.r.0 c.args.x.0 whole) (devices_among runs c.args.r.0 (length c.args.self.now)) c.args.self.now) c.whole_end-whole.ensures.whole
    ∙ ap (λ (p : WindowParts). waited_run p.table p.runs c.args.r.0 c.args.x.0 c.args.self.now) c.s.view_is
