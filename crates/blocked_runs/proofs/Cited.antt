-- What proofs of other crates cite of this one: lemmas, and the words in which these are said, by
-- the file in which they stand. Every other file of proofs/ is private.

-- What the words of bits of runs say.
pub use Rattle.blocked_runs.proofs.RunBits.{has_either, has_nothing, has_one, has_without}
-- What may be said of the marks where nothing is done to them.
pub use Rattle.blocked_runs.proofs.Marking.{all_left}
