use Rattle.serial_line.proofs.Prelude.{Ran, ap, arith, front_of, place_of, rules, settling, sym, true, ◌∙◌}
use Rattle.serial_line.proofs.Fronts.{ended_closed, front_settled}
use Rattle.serial_line.proofs.Once.{change_told, change_untold, differ_changed, place_told, same_items}
use Rattle.serial_line.proofs.RunPlaces.{places_stay}
use Rattle.serial_line.proofs.lines.Line.settle.Goals as goal

pub front_from-self-inside-requires-clause-from : goal.front_from-self-inside-requires-clause-from
front_from-self-inside-requires-clause-from c =
    let closed = ended_closed c.settle.new.self c.index_mut.result.now c.settle.ensures in
    let front = c.self.invariant.front in
    rw c.as_slice.ensures.value (front_settled c.self.inside.entries.items c.in-Some.at c.self.inside.front c.settle.new.self closed (omega (arith, front)))

pub invariant_of-self : goal.invariant_of-self
invariant_of-self c =
    let told = ap (λ s. place_of (Ran c.args.run) s.marks) c.self.view_is ∙ sym c.place_of.ensures.place ∙ c.in-Some.is in
    record {
      once = differ_changed (Ran c.args.run) c.self.inside.entries.items c.in-Some.at c.index_mut.result.now c.settle.new.self c.self.invariant.once told c.index_mut.ensures.value (ap (λ m. m.item) c.settle.ensures);
      room = c.self.invariant.room;
      few = c.self.invariant.few;
      labelled = search rules;
      labels = c.self.invariant.labels;
      label_room = c.self.invariant.label_room;
      sealed = search rules;
      front = c.front_from-self-inside.ensures ∙ ap front_of c.as_slice.ensures.value;
      places =
          places_stay c.self.inside.entries.items _ c.self.inside.places (same_items c.self.inside.entries.items c.in-Some.at c.settle.new.self
          c.index_mut.result.now (place_told (Ran c.args.run) c.self.inside.entries.items c.in-Some.at c.index_mut.result.now told).0
          (ap (λ m. m.item) c.settle.ensures ∙ ap (λ m. m.item) c.index_mut.ensures.value)) c.self.invariant.places;
    }

pub returns-in-Some-clause-marks : goal.returns-in-Some-clause-marks
returns-in-Some-clause-marks c =
    let told = ap (λ s. place_of (Ran c.args.run) s.marks) c.self.view_is ∙ sym c.place_of.ensures.place ∙ c.in-Some.is in
    change_told (Ran c.args.run) (λ m. record m { ended = true }) c.self.inside.entries.items c.in-Some.at c.index_mut.result.now c.settle.new.self c.self.invariant.once told c.index_mut.ensures.value c.settle.ensures
    ∙ ap (λ s. settling c.args.run.0 s.marks) c.self.view_is

pub returns-in_default-clause-marks : goal.returns-in_default-clause-marks
returns-in_default-clause-marks c = change_untold (Ran c.args.run) (λ m. record m { ended = true }) c.args.self.now.marks (search rules)
