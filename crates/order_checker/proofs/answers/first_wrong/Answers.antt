use Rattle.order_checker.proofs.Executions.{home-end, home-passed, routine-home, wrong-end, wrong-found, wrong-passed, wrong-start}
use Rattle.order_checker.proofs.answers.first_wrong.Goals as goal
use Rattle.order_checker.proofs.Executions.{home_from, wrong_from}
use Rattle.order_checker.proofs.Prelude.{Effect, Kind, List, ap, drop, length, length-set, map, sym, ◌+◌, ◌∙◌}
use Rattle.serial_meaning.specs.Progress.{effect_of}

pub returns-then-not-is_right-clause-some : goal.returns-then-not-is_right-clause-some
returns-then-not-is_right-clause-some c =
    let kinds : List Kind = map (λ d. d.kind) c.args.devices.now in
    sym (wrong-start kinds c.args.home.now.items c.args.commands.now c.args.told.now)
    ∙ c.commands.invariant.wrong
    ∙ wrong-found kinds c.commands.home.items c.commands.register c.args.commands.now c.args.told.now c.commands.i _ (effect_of c.effect_in-outcome.result) c.commands-test.true c.effect_in-outcome.ensures (sym c.if-not-is_right.ensures)

pub commands-preserved : goal.commands-preserved
commands-preserved c =
    let kinds : List Kind = map (λ d. d.kind) c.args.devices.now in
    let e : Effect = effect_of c.effect_in-outcome.result in
    record {
      wrong =
          c.commands.invariant.wrong
          ∙ wrong-passed kinds c.commands.home.items c.commands.register c.args.commands.now c.args.told.now c.commands.i _ e c.commands-test.true c.effect_in-outcome.ensures (sym c.if-not-is_right.ensures)
          ∙ ap (λ home. wrong_from kinds home e.register (drop (c.commands.i + 1) c.args.commands.now) (drop (c.commands.i + 1) c.args.told.now) (c.commands.i + 1)) (sym c.set.ensures.items);
      behind =
          c.commands.invariant.behind
          ∙ home-passed kinds c.commands.home.items c.commands.register c.args.commands.now c.commands.i _ e c.commands-test.true c.effect_in-outcome.ensures
          ∙ ap (λ home. home_from kinds home e.register (drop (c.commands.i + 1) c.args.commands.now)) (sym c.set.ensures.items);
      size = ap length c.set.ensures.items ∙ length-set _ _ _ ∙ c.commands.invariant.size;
    }

pub returns-clause-none : goal.returns-clause-none
returns-clause-none c =
    let kinds : List Kind = map (λ d. d.kind) c.args.devices.now in
    sym (wrong-start kinds c.args.home.now.items c.args.commands.now c.args.told.now)
    ∙ c.commands.invariant.wrong
    ∙ wrong-end kinds c.commands.home.items c.commands.register c.args.commands.now (drop c.commands.i c.args.told.now) c.commands.i c.commands-test.false

pub returns-clause-home : goal.returns-clause-home
returns-clause-home c =
    let kinds : List Kind = map (λ d. d.kind) c.args.devices.now in
    sym (routine-home kinds c.args.commands.now c.args.home.now.items ∙ c.commands.invariant.behind ∙ home-end kinds c.commands.home.items c.commands.register c.args.commands.now c.commands.i c.commands-test.false)
