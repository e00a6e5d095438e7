use Rattle.serial_line.proofs.Fronts.{front_inserted}
use Rattle.serial_line.proofs.Once.{differ_insert}
use Rattle.serial_line.proofs.RunPlaces.{before_inserted}
use Rattle.serial_line.proofs.lines.Line.insert.Goals as goal
use Rattle.serial_line.proofs.Prelude.{ArePlacesBefore, AreRunPlaces, all_differ, ap, arith, front_of, items_of, rules, stands, subst, sym, untouched, with_item, ◌∙◌, ◌≡◌}

-- what the call sees is the line with the item
pub tell_places-requires-clause-once : goal.tell_places-requires-clause-once
tell_places-requires-clause-once c =
    let seen : c.as_slice-entries.result.now ≡ with_item c.args.at c.args.item c.self.inside.entries.items = search rules in
    let absent = ap (λ s. stands c.args.item s.marks) c.self.view_is ∙ c.requires.absent in
    ap (λ ms. all_differ (items_of ms)) seen ∙ differ_insert c.self.inside.entries.items c.args.at (untouched c.args.item) c.self.invariant.once absent

pub tell_places-requires-clause-before : goal.tell_places-requires-clause-before
tell_places-requires-clause-before c =
    let seen : c.as_slice-entries.result.now ≡ with_item c.args.at c.args.item c.self.inside.entries.items = search rules in
    subst (λ ms. ArePlacesBefore c.args.at ms c.self.inside.places) (sym seen) (before_inserted c.self.inside.entries.items c.args.at (untouched c.args.item) c.self.inside.places c.self.invariant.once (search rules) c.self.invariant.places)

pub front_from-self-inside-requires-clause-from : goal.front_from-self-inside-requires-clause-from
front_from-self-inside-requires-clause-from c =
    let seen : c.as_slice-entries.result.now ≡ with_item c.args.at c.args.item c.self.inside.entries.items = search rules in
    let least = c.min.ensures in
    let front = c.self.invariant.front in
    rw seen (front_inserted c.self.inside.entries.items c.args.at c.min.result (untouched c.args.item) (search rules) (omega (arith, least)) (omega (arith, least, front)))

pub invariant_of-self : goal.invariant_of-self
invariant_of-self c = record {
  once =
      let seen : c.insert-inserted.new.self.items ≡ with_item c.args.at c.args.item c.self.inside.entries.items = search rules in
      let absent = ap (λ s. stands c.args.item s.marks) c.self.view_is ∙ c.requires.absent in
      ap (λ ms. all_differ (items_of ms)) seen ∙ differ_insert c.self.inside.entries.items c.args.at (untouched c.args.item) c.self.invariant.once absent;
  room = search rules;
  few = search rules;
  labelled = search rules;
  labels = c.insert_label.ensures.labels;
  label_room = search rules;
  sealed = search rules;
  front = c.front_from-self-inside.ensures ∙ ap front_of c.as_slice-entries.ensures.value;
  places = subst (λ ms. AreRunPlaces ms c.tell_places.new.places) c.as_slice-entries.ensures.value c.tell_places.ensures;
}
