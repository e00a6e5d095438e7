use Rattle.order_checker.proofs.Passing.{stand-passed, stand-refused}
use Rattle.order_checker.proofs.Walking.{walk-end}
use Rattle.order_checker.proofs.home_lines.read_each_stand.Goals as goal
use Rattle.order_checker.proofs.Prelude.{ap, arith, drop, length-append, next_stand, sym, texts, walk, ◌+◌, ◌∙◌}

pub returns-in_default : goal.returns-in_default
returns-in_default c =
    c.devices.invariant.walk
    ∙ stand-refused c.args.devices.now c.args.words.now c.devices.stands.items c.devices.i c.index-devices-i.result _ c.devices-test.true c.index-devices-i.is c.requires c.devices.invariant.count (sym c.in_default.ensures)

pub devices-preserved : goal.devices-preserved
devices-preserved c =
    record {
      walk =
          c.devices.invariant.walk
          ∙ stand-passed c.args.devices.now c.args.words.now c.devices.stands.items c.devices.i c.index-devices-i.result _ c.in-Some.stand c.devices-test.true c.index-devices-i.is c.requires c.devices.invariant.count (sym c.in-Some.ensures)
          ∙ ap (λ stands. walk (next_stand (texts c.args.words.now)) stands (drop (c.devices.i + 1) c.args.devices.now)) (sym c.in_ok-push.ensures.ok);
      count = rw c.in_ok-push.ensures.ok (rw length-append (omega (arith, c.devices.invariant.count)));
    }

pub returns : goal.returns
returns c = c.devices.invariant.walk ∙ walk-end (next_stand (texts c.args.words.now)) c.devices.stands.items c.args.devices.now c.devices.i c.devices-test.false
