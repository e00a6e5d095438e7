use Rattle.serial_line.proofs.Prelude.{AreRunPlaces, Ran, all_differ, ap, arith, end_leaves_room, false, front_of, items_of, length, marks_without, place_of, remove, rules, stands, subst, sym, take, true, untouched, vec_len, ◌∙◌, ◌≡◌}
use Rattle.serial_line.proofs.Fronts.{front_removed}
use Rattle.serial_line.proofs.Labels.{labels_left, labels_stay}
use Rattle.serial_line.proofs.Once.{differ_removed, place_told, removed_told, removed_untold, told_stands, untold_stands}
use Rattle.serial_line.proofs.RunPlaces.{before_removed}
use Rattle.serial_line.proofs.Sealed.{unsealed_place}
use Rattle.serial_line.proofs.lines.Line.remove.Goals as goal

-- it is none of those that are sealed
pub remove_label-requires-clause-unsealed : goal.remove_label-requires-clause-unsealed
remove_label-requires-clause-unsealed c =
    let told = ap (λ s. place_of (Ran c.args.run) s.marks) c.self.view_is ∙ sym c.place_of.ensures.place ∙ c.in-Some.is in
    let none = ap (λ s. stands (Ran c.args.run) (take s.sealed s.marks)) c.self.view_is ∙ c.requires.unsealed in
    unsealed_place (Ran c.args.run) c.self.inside.entries.items c.in-Some.at c.self.inside.sealed told none

-- what the call sees is the line without the run
pub tell_places-requires-clause-once : goal.tell_places-requires-clause-once
tell_places-requires-clause-once c =
    let told = ap (λ s. place_of (Ran c.args.run) s.marks) c.self.view_is ∙ sym c.place_of.ensures.place ∙ c.in-Some.is in
    let seen : c.as_slice-entries.result.now ≡ remove c.self.inside.entries.items c.in-Some.at = search rules in
    ap (λ ms. all_differ (items_of ms)) seen ∙ differ_removed (Ran c.args.run) c.self.inside.entries.items c.in-Some.at c.self.invariant.once told

pub tell_places-requires-clause-before : goal.tell_places-requires-clause-before
tell_places-requires-clause-before c =
    let told = ap (λ s. place_of (Ran c.args.run) s.marks) c.self.view_is ∙ sym c.place_of.ensures.place ∙ c.in-Some.is in
    let seen : c.as_slice-entries.result.now ≡ remove c.self.inside.entries.items c.in-Some.at = search rules in
    let differ = differ_removed (Ran c.args.run) c.self.inside.entries.items c.in-Some.at c.self.invariant.once told in
    rw (seen, c.tell_place.ensures) (before_removed c.self.inside.entries.items c.args.run c.in-Some.at c.self.inside.places c.self.invariant.once told differ c.self.invariant.places)

pub front_from-self-inside-requires-clause-from : goal.front_from-self-inside-requires-clause-from
front_from-self-inside-requires-clause-from c =
    let seen : c.as_slice-entries.result.now ≡ remove c.self.inside.entries.items c.in-Some.at = search rules in
    let least = c.min.ensures in
    let front = c.self.invariant.front in
    rw seen (front_removed c.self.inside.entries.items c.in-Some.at c.min.result (omega (arith, least)) (omega (arith, least, front)))

pub invariant_of-self : goal.invariant_of-self
invariant_of-self c = record {
  once =
      let told = ap (λ s. place_of (Ran c.args.run) s.marks) c.self.view_is ∙ sym c.place_of.ensures.place ∙ c.in-Some.is in
      ap (λ ms. all_differ (items_of ms)) c.remove.ensures.items ∙ differ_removed (Ran c.args.run) c.self.inside.entries.items c.in-Some.at c.self.invariant.once told;
  room = search rules;
  few = search rules;
  labelled = search rules;
  labels = c.remove_label.ensures.labels;
  label_room = search rules;
  sealed =
      let told = ap (λ s. place_of (Ran c.args.run) s.marks) c.self.view_is ∙ sym c.place_of.ensures.place ∙ c.in-Some.is in
      let none = ap (λ s. stands (Ran c.args.run) (take s.sealed s.marks)) c.self.view_is ∙ c.requires.unsealed in
      let low = unsealed_place (Ran c.args.run) c.self.inside.entries.items c.in-Some.at c.self.inside.sealed told none in
      let within = (place_told (Ran c.args.run) c.self.inside.entries.items c.in-Some.at (untouched (Ran c.args.run)) told).0 in
      let count : length c.self.inside.entries.items ≡ vec_len c.self.inside.entries = search rules in
      let size = c.remove.ensures.len in
      omega (arith, low, within, count, size);
  front = c.front_from-self-inside.ensures ∙ ap front_of c.as_slice-entries.ensures.value;
  places = subst (λ ms. AreRunPlaces ms c.tell_places.new.places) c.as_slice-entries.ensures.value c.tell_places.ensures;
}

pub returns-in-Some-clause-was_there : goal.returns-in-Some-clause-was_there
returns-in-Some-clause-was_there c = sym (told_stands (Ran c.args.run) c.args.self.now.marks c.in-Some.at (sym c.place_of.ensures.place ∙ c.in-Some.is))

pub returns-in-Some-clause-marks : goal.returns-in-Some-clause-marks
returns-in-Some-clause-marks c =
    let told = ap (λ s. place_of (Ran c.args.run) s.marks) c.self.view_is ∙ sym c.place_of.ensures.place ∙ c.in-Some.is in
    c.remove.ensures.items ∙ removed_told (Ran c.args.run) c.self.inside.entries.items c.in-Some.at c.self.invariant.once told ∙ ap (λ s. marks_without c.args.run.0 s.marks) c.self.view_is

pub returns-in-None-clause-was_there : goal.returns-in-None-clause-was_there
returns-in-None-clause-was_there c = sym (untold_stands (Ran c.args.run) c.args.self.now.marks (sym c.place_of.ensures.place ∙ c.in-None.is))

pub returns-in-None-clause-marks : goal.returns-in-None-clause-marks
returns-in-None-clause-marks c = removed_untold (Ran c.args.run) c.args.self.now.marks (sym c.place_of.ensures.place ∙ c.in-None.is)

pub returns-in-Some-clause-labels : goal.returns-in-Some-clause-labels
returns-in-Some-clause-labels c leaves =
    let left = labels_left c.args.run c.args.self.now c.in-Some.at (sym c.place_of.ensures.place ∙ c.in-Some.is) ∙ ap (λ s. remove s.labels c.in-Some.at) (sym c.self.view_is) in
    c.remove_label.ensures.others (subst (λ l. end_leaves_room l ≡ true) left leaves) ∙ sym left

pub returns-in-Some-clause-anew : goal.returns-in-Some-clause-anew
returns-in-Some-clause-anew c there leaves =
    let left = labels_left c.args.run c.args.self.now c.in-Some.at (sym c.place_of.ensures.place ∙ c.in-Some.is) ∙ ap (λ s. remove s.labels c.in-Some.at) (sym c.self.view_is) in
    rw (← c.self.view_is) (c.remove_label.ensures.anew (subst (λ l. end_leaves_room l ≡ false) left leaves))

pub returns-in-None-clause-labels : goal.returns-in-None-clause-labels
returns-in-None-clause-labels c leaves = sym (labels_stay c.args.run c.args.self.now (sym c.place_of.ensures.place ∙ c.in-None.is))
