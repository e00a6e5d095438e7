use Rattle.lineage_table.proofs.DeviceCounts.{counts_new, counts_none, sees_known, sees_new, sees_none}
use Rattle.lineage_table.proofs.tables.count_run.Goals as goal
use Rattle.lineage_table.proofs.tables.count_run.Goals.{then-device-lt256+then-not-has, else-device-lt256, else-device-lt256-via-then-device-lt256+else-not-has, else-device-lt256-via-else-device-lt256}
use Rattle.lineage_table.proofs.Prelude.{arith, refl, sym, ◌∙◌}

pub commands-init : goal.commands-init
commands-init c = rw c.none-seen.ensures (sees_none, counts_none c.args.counts.now)

pub commands-preserved : goal.commands-preserved
commands-preserved c =
    elim c.if-device-lt256.branch [
      | then-device-lt256+then-not-has w ↦ rw (w.counts-is, w.seen-is, w.add.ensures) (
        sees_new c.args.commands.now c.commands.command-index _ c.commands-test.true c.commands.seen c.commands.invariant.0,
        counts_new c.args.counts.now c.commands.counts c.commands.seen _ _ c.commands.invariant.1 (omega (arith, w.if-device-lt256.true)) (omega (arith, w.if-device-lt256.true, c.if-device-lt256.array_long)) (sym w.has.ensures ∙ w.if-not-has.true) refl,
      )
      | else-device-lt256 w ↦ rw (w.counts-is, w.seen-is) (
        sees_known c.args.commands.now c.commands.command-index _ c.commands-test.true c.commands.seen c.commands.invariant.0 (elim w.else-device-lt256.branch [
          | else-device-lt256-via-then-device-lt256+else-not-has v ↦ (λ low. sym v.has.ensures ∙ v.if-not-has.false)
          | else-device-lt256-via-else-device-lt256 v ↦ (λ low. absurd (omega (arith, low, v.if-device-lt256.false)))
        ]),
        c.commands.invariant.1,
      )
    ]
