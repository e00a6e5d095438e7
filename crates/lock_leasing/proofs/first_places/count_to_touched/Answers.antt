use Rattle.lock_leasing.proofs.Prelude.{ap, commands_of, last_within, runs_of, sym, up_to, ◌∙◌}
use Rattle.lock_leasing.proofs.TouchCounts.{touched_by_set}
use Rattle.lock_leasing.proofs.first_places.count_to_touched.Goals as goal

pub count_through-requires : goal.count_through-requires
count_through-requires c = last_within _ c.args.line.now.marks c.in-Some.at (sym c.last_meeting.ensures ∙ c.in-Some.is)

pub returns-in-Some : goal.returns-in-Some
returns-in-Some c = c.count_through.ensures ∙ ap up_to (sym c.in-Some.is ∙ c.last_meeting.ensures ∙ touched_by_set (commands_of (runs_of c.args.roster.now) c.args.r.0) c.devices.result.now c.args.line.now.marks c.devices.ensures)

pub returns-in-None : goal.returns-in-None
returns-in-None c = ap up_to (sym c.in-None.is ∙ c.last_meeting.ensures ∙ touched_by_set (commands_of (runs_of c.args.roster.now) c.args.r.0) c.devices.result.now c.args.line.now.marks c.devices.ensures)
