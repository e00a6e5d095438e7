use Rattle.serial_line.proofs.Prelude.{AreKeptOf, plain_run, subst, sym}
use Rattle.serial_line.proofs.KeptRuns.{kept_more}
use Rattle.serial_line.proofs.kept_runs.KeptRuns.join.Goals as goal

pub returns : goal.returns
returns c = λ runs are.
    kept_more runs c.self.inside.runs.items c.push.new.self.items _ (plain_run c.args.run.now) (subst (AreKeptOf runs) (sym c.self.view_is) are) c.in-Ok.ensures.ok c.kept_of.ensures.devices c.kept_of.ensures.leader
