use Rattle.timeline_scheduler.proofs.Prelude.{IsGathered, refl, runs_of, subst, sym, ◌∷◌}
use Rattle.timeline_scheduler.proofs.Gathering.{back_gathered, failed_gathered}
use Rattle.timeline_scheduler.proofs.gathered.Gathered.add.Goals as goal

pub returns-in-Failed : goal.returns-in-Failed
returns-in-Failed c = λ items was.
    subst (λ i. IsGathered (runs_of c.args.roster.now) (i ∷ items) (record { devices = c.add.new.self; runs = c.args.self.now.runs; leaders = c.args.self.now.leaders })) (sym c.in-Failed.is)
    (failed_gathered (runs_of c.args.roster.now) c.in-Failed.d _ items c.args.self.now (record { devices = c.add.new.self; runs = c.args.self.now.runs; leaders = c.args.self.now.leaders }) was c.add.ensures refl refl)

pub returns-in-Back : goal.returns-in-Back
returns-in-Back c = λ items was.
    subst (λ i. IsGathered (runs_of c.args.roster.now) (i ∷ items) (record { devices = c.add-in-Back.new.self; runs = c.args.self.now.runs; leaders = c.args.self.now.leaders })) (sym c.in-Back.is)
    (back_gathered (runs_of c.args.roster.now) c.in-Back.d _ items c.args.self.now (record { devices = c.add-in-Back.new.self; runs = c.args.self.now.runs; leaders = c.args.self.now.leaders }) was c.add-in-Back.ensures refl refl)
