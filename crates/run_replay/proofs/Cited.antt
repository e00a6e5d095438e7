-- What proofs of other crates cite of this one: lemmas, and the words in which these are said, by
-- the file in which they stand. Every other file of proofs/ is private.

-- The player of a hub in which nothing was done yet.
pub use Rattle.run_replay.proofs.Opening.{fresh_where}
