use Rattle.serial_line.proofs.RunPlaces.{told_one}
use Rattle.serial_line.proofs.lines.tell_places.Goals as goal
use Rattle.serial_line.proofs.Prelude.{ArePlacesBefore, ap, subst, sym, ◌+◌, ◌∙◌}

pub entries-preserved : goal.entries-preserved
entries-preserved c =
    subst (ArePlacesBefore (c.entries.at + 1) c.args.entries.now) (sym c.tell_place.ensures)
    (told_one c.args.entries.now c.entries.at c.item.result c.index-entries-at.result c.entries.places c.requires.once c.entries-test.true
    (c.item.ensures ∙ ap (λ m. m.item) c.index-entries-at.is) c.entries.invariant)
