use Rattle.command_rules.proofs.LastSums.{sum_or-off, sum_or-on, sum_or-start}
use Rattle.command_rules.proofs.footprints.sum_to_last.Goals as goal
use Rattle.command_rules.proofs.footprints.sum_to_last.Goals.{else-eq, then-eq}
use Rattle.command_rules.proofs.Prelude.{arith, sym, ◌∙◌}

pub commands-init : goal.commands-init
commands-init c = (sum_or-start c.args.d.0 c.args.commands.now, omega arith)

pub commands-preserved : goal.commands-preserved
commands-preserved c =
    elim c.if-eq.branch [
      | then-eq w ↦ (sum_or-on _ _ _ _ _ c.commands.to_last _ c.commands-test.true (sym c.eq.ensures ∙ w.if-eq.true) w.to_last-is ∙ c.commands.invariant.0, omega (arith, c.commands.invariant.1))
      | else-eq w ↦ (sum_or-off _ _ _ _ _ c.commands.to_last _ c.commands-test.true (sym c.eq.ensures ∙ w.if-eq.false) w.to_last-is ∙ c.commands.invariant.0, omega (arith, c.commands.invariant.1))
    ]
