-- What proofs of other crates cite of this one: lemmas, and the words in which these are said, by
-- the file in which they stand. Every other file of proofs/ is private.

-- Places in a list that is made from another.
pub use Rattle.routine_reader.proofs.NameLemmas.{position-map}
-- Items one after another, each of which suits those before it.
pub use Rattle.routine_reader.proofs.PrefixLemmas.{EachAfter, each-more, each-none, length-before}
-- The runs of a window of a sound script, and its devices.
pub use Rattle.routine_reader.proofs.RosterLemmas.{routines-there, runs-there, window-there}
