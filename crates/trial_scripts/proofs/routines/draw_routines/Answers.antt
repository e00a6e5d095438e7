use Rattle.trial_scripts.proofs.Prelude.{ap, draw_routine, map, plain_routine}
use Rattle.trial_scripts.proofs.DrawnEach.{none_yet, one_more_seen}
use Rattle.trial_scripts.proofs.routines.draw_routines.Goals as goal

pub routines-init : goal.routines-init
routines-init c = none_yet draw_routine c.args.draws.now (map plain_routine c.new-routines.result.items) (ap (map plain_routine) c.new-routines.ensures.empty)

pub routines-preserved : goal.routines-preserved
routines-preserved c =
    one_more_seen plain_routine draw_routine c.routines.number c.args.draws.now c.routines.draws c.draw_routine.new.draws c.routines.routines.items c.push.new.self.items c.in_ok-draw_routine.field-0
    c.routines.invariant c.in_ok-draw_routine.ensures c.in_ok-push.ensures.ok
