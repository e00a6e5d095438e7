use Rattle.serial_line.proofs.Prelude.{Ran, ap, false, is_open_run, place_of, rules, stands, sym, touching, ◌∙◌, ◌≡◌}
use Rattle.serial_line.proofs.Once.{differ_changed, old_told, place_told, same_items, change_told, untold_stands}
use Rattle.serial_line.proofs.Fronts.{front_stays, stays_open}
use Rattle.serial_line.proofs.RunPlaces.{places_stay}
use Rattle.serial_line.proofs.lines.Line.mark.Goals as goal
use Rattle.std.specs.FinSet as set

pub touch-requires-clause-run : goal.touch-requires-clause-run
touch-requires-clause-run c =
    let told = ap (λ s. place_of (Ran c.args.run) s.marks) c.self.view_is ∙ sym c.place_of.ensures.place ∙ c.in-Some.is in
    old_told (Ran c.args.run) c.self.inside.entries.items c.in-Some.at c.index_mut.result.now told c.index_mut.ensures.value

pub invariant_of-self : goal.invariant_of-self
invariant_of-self c =
    let told = ap (λ s. place_of (Ran c.args.run) s.marks) c.self.view_is ∙ sym c.place_of.ensures.place ∙ c.in-Some.is in
    record {
      once = differ_changed (Ran c.args.run) c.self.inside.entries.items c.in-Some.at c.index_mut.result.now c.touch.new.self c.self.invariant.once told c.index_mut.ensures.value c.touch.ensures.item;
      room = c.self.invariant.room;
      few = c.self.invariant.few;
      labelled = search rules;
      labels = c.self.invariant.labels;
      label_room = c.self.invariant.label_room;
      sealed = search rules;
      front =
          c.self.invariant.front ∙ sym (front_stays c.self.inside.entries.items c.in-Some.at c.touch.new.self c.index_mut.result.now
          (place_told (Ran c.args.run) c.self.inside.entries.items c.in-Some.at c.index_mut.result.now told).0
          (stays_open c.touch.new.self c.index_mut.result.now c.touch.ensures.item c.touch.ensures.ended ∙ ap is_open_run c.index_mut.ensures.value));
      places =
          places_stay c.self.inside.entries.items _ c.self.inside.places (same_items c.self.inside.entries.items c.in-Some.at c.touch.new.self
          c.index_mut.result.now (place_told (Ran c.args.run) c.self.inside.entries.items c.in-Some.at c.index_mut.result.now told).0
          (c.touch.ensures.item ∙ ap (λ m. m.item) c.index_mut.ensures.value)) c.self.invariant.places;
    }

pub returns-in-Some-clause-marks : goal.returns-in-Some-clause-marks
returns-in-Some-clause-marks c =
    let told = ap (λ s. place_of (Ran c.args.run) s.marks) c.self.view_is ∙ sym c.place_of.ensures.place ∙ c.in-Some.is in
    change_told (Ran c.args.run) (λ m. record m { touched = set.insert m.touched c.args.device.0 }) c.self.inside.entries.items c.in-Some.at c.index_mut.result.now c.touch.new.self c.self.invariant.once told c.index_mut.ensures.value
    (λ i. record { item = c.touch.ensures.item i; touched = c.touch.ensures.touched i; ended = c.touch.ensures.ended i })
    ∙ ap (λ s. touching c.args.run.0 c.args.device.0 s.marks) c.self.view_is

pub returns-in_default-clause-marks : goal.returns-in_default-clause-marks
returns-in_default-clause-marks c =
    let absent : stands (Ran c.args.run) c.args.self.now.marks ≡ false = untold_stands (Ran c.args.run) c.args.self.now.marks (search rules) in
    absurd (cc (sym c.requires.run ∙ absent))
