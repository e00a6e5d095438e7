use Rattle.serial_line.proofs.RunPlaces.{no_places}
use Rattle.serial_line.proofs.lines.Line.open.Goals as goal
use Rattle.serial_line.proofs.Prelude.{AreLabels, AreRunPlaces, None, replicate, rules, subst, sym}

pub invariant_of-result : goal.invariant_of-result
invariant_of-result c = record {
  once = search rules;
  room = search rules;
  few = search rules;
  front = search rules;
  labelled = search rules;
  labels = subst AreLabels (sym c.new-2.ensures.items) (record { rising = tt; room = tt });
  label_room = search rules;
  sealed = search rules;
  places = subst (λ ms. AreRunPlaces ms (replicate 65 None)) (sym c.new.ensures.items) (no_places 65);
}
