use Rattle.abort_rollback.proofs.NextUndos.{not_before, not_through, undo_here, undo_nowhere}
use Rattle.abort_rollback.proofs.undos.next_undo.Goals as goal
use Rattle.abort_rollback.proofs.Prelude.{arith, false, has_effective_write, rules, sym, true, ◌+◌, ◌∙◌, ◌≡◌}

pub returns-then-eq : goal.returns-then-eq
returns-then-eq c =
    let here : has_effective_write c.args.table.now c.args.r.0 c.in-Some.d.0 ≡ true = search rules in
    c.undo_on.ensures ∙ sym (undo_here c.args.table.now c.args.r.0 c.in-Some.d.0 c.in-Some.ensures.homed here (not_before c.args.table.now c.args.r.0 c.devices.from.0 c.in-Some.d.0 c.kept_invariant.ensures c.devices.invariant c.in-Some.ensures.next.2))

pub devices-preserved : goal.devices-preserved
devices-preserved c =
    let here : has_effective_write c.args.table.now c.args.r.0 c.in-Some.d.0 ≡ false = search rules in
    not_through c.args.table.now c.args.r.0 c.in-Some.d.0 (not_before c.args.table.now c.args.r.0 c.devices.from.0 c.in-Some.d.0 c.kept_invariant.ensures c.devices.invariant c.in-Some.ensures.next.2) here

pub returns : goal.returns
returns c = sym (undo_nowhere c.args.table.now c.args.r.0 (λ e within. not_before c.args.table.now c.args.r.0 c.devices.from.0 (e + 1) c.kept_invariant.ensures c.devices.invariant (λ k reached below. c.in_default.ensures.next k reached) e (omega arith)))
