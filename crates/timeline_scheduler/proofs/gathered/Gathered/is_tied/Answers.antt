use Rattle.timeline_scheduler.proofs.Prelude.{None, Some, ap, false, followed_by, refl, runs_of, sym, ◌∙◌, ◌≡◌}
use Rattle.timeline_scheduler.proofs.Gathering.{tied_one, tied_other}
use Rattle.timeline_scheduler.proofs.gathered.Gathered.is_tied.Goals as goal

pub returns-then-leads : goal.returns-then-leads
returns-then-leads c = λ items g. tied_one (runs_of c.args.roster.now) c.args.x.0 items (sym c.if-leads.true ∙ g.leaders c.args.x.0 c.requires.1)

pub returns-in-Some : goal.returns-in-Some
returns-in-Some c = λ items g.
    let leads : followed_by (runs_of c.args.roster.now) c.args.x.0 ≡ Some c.in-Some.leader = ap (λ ro. followed_by (runs_of ro) c.args.x.0) (sym c.roster.ensures) ∙ sym c.in-Some.ensures in
    tied_other (runs_of c.args.roster.now) c.args.x.0 items (Some c.in-Some.leader) _ leads (g.among c.in-Some.leader.0 (c.requires.2 c.in-Some.leader leads)) (sym c.if-leads.false ∙ g.leaders c.args.x.0 c.requires.1)

pub returns-in-None : goal.returns-in-None
returns-in-None c = λ items g.
    let leads : followed_by (runs_of c.args.roster.now) c.args.x.0 ≡ None = ap (λ ro. followed_by (runs_of ro) c.args.x.0) (sym c.roster.ensures) ∙ sym c.in-None.ensures in
    tied_other (runs_of c.args.roster.now) c.args.x.0 items None false leads refl (sym c.if-leads.false ∙ g.leaders c.args.x.0 c.requires.1)
