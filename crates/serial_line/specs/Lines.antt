-- What is true of the fields of each line.
use Rattle.serial_line.specs.Labels.{AreLabels}
use Rattle.serial_line.specs.Marks.{all_differ, front_of, items_of}
use Rattle.serial_line.specs.RunPlaces.{AreRunPlaces}
use Rattle.serial_line.specs.declared.lines.Line.TheInside.{Inside}
use Rattle.std.specs.Prelude.{true, vec_capacity, vec_len, ◌+◌, ◌<◌, ◌^◌, ◌≡◌, ◌≤◌}

pub record LineIsSound (line : Inside) : Type 0 where
  pub once : all_differ (items_of line.entries.items) ≡ true
  pub room : vec_len line.entries + line.spare ≡ vec_capacity line.entries
  pub few : vec_len line.entries + line.spare < 2 ^ 32
  pub places : AreRunPlaces line.entries.items line.places
  pub front : line.front ≡ front_of line.entries.items
  pub labelled : vec_len line.labels ≡ vec_len line.entries
  pub labels : AreLabels line.labels.items
  pub label_room : vec_len line.labels + line.spare ≡ vec_capacity line.labels
  pub sealed : line.sealed ≤ vec_len line.entries
