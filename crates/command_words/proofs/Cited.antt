-- What proofs of other crates cite of this one: lemmas, and the words in which these are said, by
-- the file in which they stand. Every other file of proofs/ is private.

-- A command line has no mode but one whose scheduler goes with its model.
pub use Rattle.command_words.proofs.PairedModes.{line_is_paired}
