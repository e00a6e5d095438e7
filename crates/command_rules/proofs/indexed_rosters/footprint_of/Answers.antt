use Rattle.command_rules.proofs.FirstUses.{uses_guarded_write, uses_none, uses_read, uses_write}
use Rattle.command_rules.proofs.FootprintBits.{covers_none, low_device, passed_known, passed_new}
use Rattle.command_rules.proofs.indexed_rosters.footprint_of.Goals as goal
use Rattle.command_rules.proofs.indexed_rosters.footprint_of.Goals.{else-is_always, else-not-has, else-reads, then-is_always, then-not-has, then-reads}
use Rattle.command_rules.proofs.Prelude.{arith, length, refl, sym, ◌-◌, ◌<◌, ◌∙◌}
use Rattle.std.proofs.lemmas.Nat.{one_shl}

pub commands-init : goal.commands-init
commands-init c = (refl, rw c.none-devices.ensures (covers_none c.args.commands.now), rw (c.none-first_reads.ensures, c.none-written.ensures) (uses_none c.args.commands.now))

pub add-requires : goal.add-requires
add-requires c =
    let within : length c.args.commands.now - 1 - c.commands.passed < length c.args.commands.now = omega (arith, c.commands-test.true) in
    low_device c.args.commands.now _ _ within c.requires.low

pub commands-preserved : goal.commands-preserved
commands-preserved c =
    let place : length c.args.commands.now - 1 - c.commands.passed < 64 = omega (arith, c.commands-test.true, c.requires.few) in (
      refl,
      elim c.if-not-has.branch [
        | then-not-has w ↦ rw (w.devices-is, w.add-then-not-has.ensures, w.lasts-is, one_shl (length c.args.commands.now - 1 - c.commands.passed) 64 place)
            (passed_new c.args.commands.now c.commands.passed _ c.commands-test.true c.commands.devices c.commands.lasts c.commands.invariant.1
            (sym c.has.ensures ∙ w.if-not-has.true))
        | else-not-has w ↦ rw (w.devices-is, w.lasts-is) (passed_known c.args.commands.now c.commands.passed _ c.commands-test.true c.commands.devices c.commands.lasts c.commands.invariant.1 (sym c.has.ensures ∙ w.if-not-has.false))
      ],
      elim c.if-reads.branch [
        | then-reads w ↦ rw (w.first_reads-is, w.add.ensures, w.written-is) (uses_read c.args.commands.now c.commands.passed _ c.commands-test.true c.commands.first_reads c.commands.written c.commands.invariant.2 (sym c.reads.ensures ∙ w.if-reads.true))
        | else-reads w ↦ elim w.if-is_always.branch [
          | then-is_always v ↦ rw (w.first_reads-is, v.first_reads-is, v.remove.ensures, w.written-is, w.add-else-reads.ensures)
              (uses_write c.args.commands.now c.commands.passed _ c.commands-test.true c.commands.first_reads c.commands.written c.commands.invariant.2
              (sym c.reads.ensures ∙ w.if-reads.false) (sym w.is_always.ensures ∙ v.if-is_always.true))
          | else-is_always v ↦ rw (w.first_reads-is, v.first_reads-is, w.written-is, w.add-else-reads.ensures)
              (uses_guarded_write c.args.commands.now c.commands.passed _ c.commands-test.true c.commands.first_reads c.commands.written c.commands.invariant.2
              (sym c.reads.ensures ∙ w.if-reads.false) (sym w.is_always.ensures ∙ v.if-is_always.false))
        ]
      ],
    )
