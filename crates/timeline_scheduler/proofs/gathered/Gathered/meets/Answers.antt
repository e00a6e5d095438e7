use Rattle.timeline_scheduler.proofs.Prelude.{ap, list_any, meet, runs_of, sym, ◌∙◌}
use Rattle.timeline_scheduler.proofs.Gathering.{back_meets, failed_meets}
use Rattle.timeline_scheduler.proofs.gathered.Gathered.meets.Goals as goal

pub returns-in-Failed : goal.returns-in-Failed
returns-in-Failed c = λ items g. c.has.ensures ∙ g.devices c.in-Failed.d.0 ∙ failed_meets (runs_of c.args.roster.now) c.in-Failed.d 0 items ∙ ap (λ i. list_any (meet (runs_of c.args.roster.now) i) items) (sym c.in-Failed.is)

pub returns-in-Back : goal.returns-in-Back
returns-in-Back c = λ items g. c.has-in-Back.ensures ∙ g.devices c.in-Back.d.0 ∙ back_meets (runs_of c.args.roster.now) c.in-Back.d 0 items ∙ ap (λ i. list_any (meet (runs_of c.args.roster.now) i) items) (sym c.in-Back.is)
