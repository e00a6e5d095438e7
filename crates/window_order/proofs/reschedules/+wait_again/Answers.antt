use Rattle.window_order.proofs.WaitingAgain.{again_before, again_new, again_room, fewer_again, leaves_absent, leaves_waiting, one_again, put_again}
use Rattle.window_order.proofs.reschedules.+wait_again.Goals as goal
use Rattle.window_order.proofs.Prelude.{Access, accesses_at, ap, arith, has_access, scheduled, sym, with_lineage, ◌∙◌}

pub returns-in_default-access : goal.returns-in_default-access
returns-in_default-access t c = leaves_absent c.args.table.now c.args.d.0 c.args.first c.in-Some.q c.in-Some.is (sym c.in_default-access.is ∙ c.access.ensures)

pub wait_again-requires : goal.wait_again-requires
wait_again-requires t c =
    let fewer = fewer_again c.args.table.now c.args.d.0 c.args.first c.in-Some.q c.in-Some-access.access c.run_behind-next.result c.requires.device
    (c.kept_invariant.ensures c.args.d.0) c.in-Some.is (sym c.in-Some-access.is ∙ c.access.ensures) c.if-eq.ensures c.requires.unused c.run_behind-next.ensures in (
      omega (arith, c.decreases, fewer),
      (
        c.requires.device,
        (one_again c.args.table.now c.args.d.0 c.args.first c.in-Some.q c.in-Some-access.access c.run_behind-next.result c.requires.device
            (c.kept_invariant.ensures c.args.d.0) c.in-Some.is (sym c.in-Some-access.is ∙ c.access.ensures) c.if-eq.ensures c.requires.unused c.run_behind-next.ensures).unused,
      ),
    )

pub schedule-requires-clause-new : goal.schedule-requires-clause-new
schedule-requires-clause-new t c =
    ap (λ (x : Access). has_access x.run.0 (accesses_at c.remove.new.self c.args.d.0)) c.scheduled_again.ensures
    ∙ again_new c.args.table.now c.args.d.0 c.args.first c.in-Some.q c.in-Some-access.access c.run_behind-next.result c.requires.device (c.kept_invariant.ensures c.args.d.0) c.in-Some.is (sym c.in-Some-access.is ∙ c.access.ensures) c.if-eq.ensures c.requires.unused c.run_behind-next.ensures
    c.wait_again.new.table c.remove.new.self c.wait_again.ensures c.remove.ensures.left

pub schedule-requires-clause-room : goal.schedule-requires-clause-room
schedule-requires-clause-room t c =
    again_room c.args.table.now c.args.d.0 c.args.first c.in-Some.q c.in-Some-access.access c.run_behind-next.result c.requires.device
    (c.kept_invariant.ensures c.args.d.0) c.in-Some.is
    (sym c.in-Some-access.is ∙ c.access.ensures) c.if-eq.ensures c.requires.unused c.run_behind-next.ensures c.wait_again.new.table
    c.remove.new.self c.wait_again.ensures c.remove.ensures.left

pub schedule-requires-clause-before : goal.schedule-requires-clause-before
schedule-requires-clause-before t c =
    again_before c.args.table.now c.args.d.0 c.args.first c.in-Some.q c.in-Some-access.access c.run_behind-next.result c.requires.device
    (c.kept_invariant.ensures c.args.d.0) c.in-Some.is
    (sym c.in-Some-access.is ∙ c.access.ensures) c.if-eq.ensures c.requires.unused c.run_behind-next.ensures c.wait_again.new.table
    c.remove.new.self c.wait_again.ensures c.remove.ensures.left

pub returns-then-eq : goal.returns-then-eq
returns-then-eq t c =
    put_again c.args.table.now c.args.d.0 c.args.first c.in-Some.q c.in-Some-access.access c.run_behind-next.result c.requires.device
    (c.kept_invariant.ensures c.args.d.0) c.in-Some.is
    (sym c.in-Some-access.is ∙ c.access.ensures) c.if-eq.ensures c.requires.unused c.run_behind-next.ensures c.wait_again.new.table
    c.remove.new.self c.wait_again.ensures c.remove.ensures.left c.schedule.new.self (c.schedule.ensures ∙ ap (λ (x : Access). with_lineage c.remove.new.self c.args.d.0 (scheduled c.run_behind-next.result x)) c.scheduled_again.ensures)

pub returns-else-eq : goal.returns-else-eq
returns-else-eq t c = leaves_waiting c.args.table.now c.args.d.0 c.args.first c.in-Some.q c.in-Some-access.access (c.kept_invariant.ensures c.args.d.0) c.in-Some.is (sym c.in-Some-access.is ∙ c.access.ensures) c.if-eq.ensures
