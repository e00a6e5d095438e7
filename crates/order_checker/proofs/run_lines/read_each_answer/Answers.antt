use Rattle.order_checker.proofs.Passing.{answer-passed, answer-refused}
use Rattle.order_checker.proofs.Walking.{walk-end}
use Rattle.order_checker.proofs.run_lines.read_each_answer.Goals as goal
use Rattle.order_checker.proofs.Prelude.{ap, arith, drop, length-append, next_answer, sym, texts, walk, ◌+◌, ◌∙◌}

pub returns-in_default : goal.returns-in_default
returns-in_default c =
    c.commands.invariant.walk
    ∙ answer-refused c.args.devices.now c.args.commands.now c.args.words.now c.args.place c.commands.answers.items c.commands.i _ _ c.commands-test.true c.requires c.commands.invariant.count (sym c.in_default.ensures)

pub commands-preserved : goal.commands-preserved
commands-preserved c =
    record {
      walk =
          c.commands.invariant.walk
          ∙ answer-passed c.args.devices.now c.args.commands.now c.args.words.now c.args.place c.commands.answers.items c.commands.i _ _ c.in-Some.answer c.commands-test.true c.requires c.commands.invariant.count (sym c.in-Some.ensures)
          ∙ ap (λ answers. walk (next_answer c.args.devices.now (texts c.args.words.now) c.args.place) answers (drop (c.commands.i + 1) c.args.commands.now)) (sym c.in_ok-push.ensures.ok);
      count = rw c.in_ok-push.ensures.ok (rw length-append (omega (arith, c.commands.invariant.count)));
    }

pub returns : goal.returns
returns c =
    c.commands.invariant.walk
    ∙ walk-end (next_answer c.args.devices.now (texts c.args.words.now) c.args.place) c.commands.answers.items c.args.commands.now c.commands.i c.commands-test.false
