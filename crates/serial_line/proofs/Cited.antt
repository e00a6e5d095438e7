-- What proofs of other crates cite of this one: lemmas, and the words in which these are said, by
-- the file in which they stand. Every other file of proofs/ is private.

-- What searches in a list find.
pub use Rattle.serial_line.proofs.Searches.{last_counted, up_to_either}
-- A line in which no item stands twice.
pub use Rattle.serial_line.proofs.Once.{place_is, place_told, place_unfound}
-- The number of items before the first run that has not ended: what it is after a change, and how
-- it is found.
pub use Rattle.serial_line.proofs.Fronts.{front_inserted, front_within}
-- The sealed items of a line: where an item that is not one of them stands.
pub use Rattle.serial_line.proofs.Sealed.{front_placed, front_settling, front_touching, front_without, live_unsealed, unsealed_place}
-- Sets of devices that have a device in common.
pub use Rattle.serial_line.proofs.Meetings.{meets_by}
-- What a line keeps of the runs of its window tells which items meet, and how many runs there are.
pub use Rattle.serial_line.proofs.KeptRuns.{kept_meet, kept_size}
-- How each call of a line keeps it the line that a layer above means, and what its answers then
-- say.
pub use Rattle.serial_line.proofs.Ties.{front_in_line, items_inserted, last_in_line, line_empty, line_inserted, line_rearranged, line_removed, line_retold, line_settling, line_touching, run_comes, touched_in_line}
