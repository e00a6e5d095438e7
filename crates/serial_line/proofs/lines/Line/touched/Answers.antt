use Rattle.serial_line.proofs.Prelude.{Ran, ap, mark_has_touched, place_of, sym, ◌∙◌}
use Rattle.serial_line.proofs.Once.{touched_told, untold_stands}
use Rattle.serial_line.proofs.lines.Line.touched.Goals as goal

pub returns-in-Some : goal.returns-in-Some
returns-in-Some c =
    let told = ap (λ s. place_of (Ran c.args.run) s.marks) c.self.view_is ∙ sym c.place_of.ensures.place ∙ c.in-Some.is in
    c.has_touched.ensures ∙ touched_told (Ran c.args.run) c.args.device.0 c.self.inside.entries.items c.in-Some.at c.index.result.now c.self.invariant.once told c.index.ensures
    ∙ ap (λ s. mark_has_touched c.args.run.0 c.args.device.0 s.marks) c.self.view_is

pub returns-in-None : goal.returns-in-None
returns-in-None c = absurd (cc (sym c.requires ∙ untold_stands (Ran c.args.run) c.args.self.now.marks (sym c.place_of.ensures.place ∙ c.in-None.is)))
