use Rattle.hub_core.proofs.freed_runs.free_weakly.Goals as goal
use Rattle.hub_core.specs.BlockedMarks.{AreFreedWeakly, is_waiting}
use Rattle.hub_core.proofs.Prelude.{configuration_of, refl, subst, sym}

pub returns-in-Wait : goal.returns-in-Wait
returns-in-Wait g c = subst (λ t. AreFreedWeakly (is_waiting t) (configuration_of c.args.window.now) c.args.r.0 c.mark_waiting.new.blocked) (sym c.in-Wait.is) (record { freed = c.unmark_all.new.self; none = c.unmark_all.ensures; marked = c.mark_waiting.ensures })

pub returns-in-Go : goal.returns-in-Go
returns-in-Go g c = subst (λ t. AreFreedWeakly (is_waiting t) (configuration_of c.args.window.now) c.args.r.0 c.unmark_all.new.self) (sym c.in-Go.is) (record { freed = c.unmark_all.new.self; none = c.unmark_all.ensures; marked = refl })

pub returns-in-Moved : goal.returns-in-Moved
returns-in-Moved g c = subst (λ t. AreFreedWeakly (is_waiting t) (configuration_of c.args.window.now) c.args.r.0 c.unmark_all.new.self) (sym c.in-Moved.is) (record { freed = c.unmark_all.new.self; none = c.unmark_all.ensures; marked = refl })

pub returns-in-Over : goal.returns-in-Over
returns-in-Over g c = subst (λ t. AreFreedWeakly (is_waiting t) (configuration_of c.args.window.now) c.args.r.0 c.unmark_all.new.self) (sym c.in-Over.is) (record { freed = c.unmark_all.new.self; none = c.unmark_all.ensures; marked = refl })

pub returns-in-Absent : goal.returns-in-Absent
returns-in-Absent g c = subst (λ t. AreFreedWeakly (is_waiting t) (configuration_of c.args.window.now) c.args.r.0 c.unmark_all.new.self) (sym c.in-Absent.is) (record { freed = c.unmark_all.new.self; none = c.unmark_all.ensures; marked = refl })
