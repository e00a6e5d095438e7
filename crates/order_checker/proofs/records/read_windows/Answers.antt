use Rattle.order_checker.proofs.Walking.{walk-end}
use Rattle.order_checker.proofs.WindowSteps.{window-passed, window-refused, windows-stopped}
use Rattle.order_checker.proofs.records.read_windows.Goals as goal
use Rattle.order_checker.proofs.Prelude.{arith, next_window_told, progress_told, ◌+◌, ◌∙◌}

pub returns-in-Err-clause-told : goal.returns-in-Err-clause-told
returns-in-Err-clause-told c =
    windows-stopped (c.windows.so_far.windows + 1) c.in-Err.halt _ _ c.in-Err.ensures.told
    (λ place refused. c.windows.invariant.walk ∙ window-refused c.args.script.now (progress_told c.windows.so_far) c.args.windows.now c.windows.window-index c.window-item.result c.windows-test.true c.window-item.is place refused)

pub windows-preserved : goal.windows-preserved
windows-preserved c =
    record {
      walk =
          c.windows.invariant.walk
          ∙ window-passed c.args.script.now (progress_told c.windows.so_far) (progress_told c.in-Ok.next) c.args.windows.now c.windows.window-index c.window-item.result c.windows-test.true c.window-item.is c.in-Ok.ensures.told;
      number = omega (arith, c.in-Ok.ensures.windows, c.windows.invariant.number);
      home = c.in-Ok.ensures.home;
      runs = c.in-Ok.ensures.runs;
      committed = c.in-Ok.ensures.committed;
    }

pub returns-clause-told : goal.returns-clause-told
returns-clause-told c =
    c.windows.invariant.walk ∙ walk-end (next_window_told c.args.script.now) (progress_told c.windows.so_far) c.args.windows.now c.windows.window-index c.windows-test.false
