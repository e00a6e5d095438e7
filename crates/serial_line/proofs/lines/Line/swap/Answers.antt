use Rattle.serial_line.proofs.Prelude.{AreRunPlaces, Some, all_differ, ap, arith, exchanged, front_of, get_or, items_of, length, rules, subst, suc, sym, with_place, ◌+◌, ◌<◌, ◌∙◌, ◌≡◌}
use Rattle.serial_line.proofs.Exchanged.{differ_exchanged, front_exchanged, swapped}
use Rattle.serial_line.proofs.Neighbours.{neighbours_there}
use Rattle.serial_line.proofs.RunPlaces.{places_exchanged}
use Rattle.serial_line.proofs.lines.Line.swap.Goals as goal

pub front_from-self-inside-requires-clause-from : goal.front_from-self-inside-requires-clause-from
front_from-self-inside-requires-clause-from c =
    let there : c.args.at + 1 < length c.self.inside.entries.items = subst (λ ms. c.args.at + 1 < length ms) (sym (ap (λ s. s.marks) c.self.view_is)) (neighbours_there c.args.self.now.runs c.args.self.now.marks c.args.at c.requires.apart) in
    let seen = c.as_slice-entries.ensures.value ∙ c.swap.ensures.items ∙ swapped c.self.inside.entries.items c.args.at there in
    let least = c.min.ensures in
    let front = c.self.invariant.front in
    rw seen (front_exchanged c.self.inside.entries.items c.args.at c.min.result (omega (arith, least)) (omega (arith, least, front)))

pub invariant_of-self : goal.invariant_of-self
invariant_of-self c =
    let there : c.args.at + 1 < length c.self.inside.entries.items = subst (λ ms. c.args.at + 1 < length ms) (sym (ap (λ s. s.marks) c.self.view_is)) (neighbours_there c.args.self.now.runs c.args.self.now.marks c.args.at c.requires.apart) in
    let after = c.swap.ensures.items ∙ swapped c.self.inside.entries.items c.args.at there in
    let seen = c.as_slice-entries.ensures.value ∙ after in
    let next : c.args.at + 1 ≡ suc c.args.at = omega arith in
    record {
      once = ap (λ ms. all_differ (items_of ms)) after ∙ differ_exchanged c.self.inside.entries.items c.args.at c.self.invariant.once;
      room = search rules;
      few = search rules;
      labelled = search rules;
      labels = c.self.invariant.labels;
      label_room = c.self.invariant.label_room;
      sealed = search rules;
      front = c.front_from-self-inside.ensures ∙ ap front_of c.as_slice-entries.ensures.value;
      places =
          subst (λ ms. AreRunPlaces ms c.tell_place-2.new.places) (sym after)
          (subst (AreRunPlaces (exchanged c.args.at c.self.inside.entries.items)) (sym (c.tell_place-2.ensures ∙ (λ k. with_place c.item-2.result (Some (next k)) (c.tell_place.ensures k))))
          (places_exchanged c.self.inside.entries.items c.args.at c.item.result c.item-2.result c.index-entries-at.result c.index-entries-at-2.result c.self.inside.places c.self.invariant.once (omega (arith, there))
          (c.item.ensures ∙ ap (λ m. m.item) c.index-entries-at.is ∙ ap (λ ms. (get_or ms c.args.at c.index-entries-at.result).item) seen)
          (c.item-2.ensures ∙ ap (λ m. m.item) c.index-entries-at-2.is ∙ (λ k. (get_or (seen k) (next k) c.index-entries-at-2.result).item)) c.self.invariant.places));
    }

pub returns-clause-marks : goal.returns-clause-marks
returns-clause-marks c =
    let there : c.args.at + 1 < length c.self.inside.entries.items = subst (λ ms. c.args.at + 1 < length ms) (sym (ap (λ s. s.marks) c.self.view_is)) (neighbours_there c.args.self.now.runs c.args.self.now.marks c.args.at c.requires.apart) in
    c.swap.ensures.items ∙ swapped c.self.inside.entries.items c.args.at there ∙ ap (λ s. exchanged c.args.at s.marks) c.self.view_is
