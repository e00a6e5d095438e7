use Rattle.trial_scripts.proofs.Prelude.{ap, draw_window, map, plain_window}
use Rattle.trial_scripts.proofs.DrawnEach.{none_yet, one_more_seen}
use Rattle.trial_scripts.proofs.windows.draw_windows.Goals as goal

pub windows-init : goal.windows-init
windows-init c = none_yet draw_window c.args.draws.now (map plain_window c.new-windows.result.items) (ap (map plain_window) c.new-windows.ensures.empty)

pub windows-preserved : goal.windows-preserved
windows-preserved c =
    one_more_seen plain_window draw_window c.windows.number c.args.draws.now c.windows.draws c.draw_window.new.draws c.windows.windows.items c.push.new.self.items c.in_ok-draw_window.field-0
    c.windows.invariant c.in_ok-draw_window.ensures c.in_ok-push.ensures.ok
