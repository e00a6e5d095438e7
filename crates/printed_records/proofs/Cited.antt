-- What proofs of other crates cite of this one: lemmas, and the words in which these are said, by
-- the file in which they stand. Every other file of proofs/ is private.

-- How many runs of a window committed, and how many were aborted: by the history, by the reading,
-- by the ends that are told.
pub use Rattle.printed_records.proofs.EndCounts.{all-ended}
-- The text of a legal day agrees, where the times in its records are numbers of 64 bits.
pub use Rattle.printed_records.proofs.LegalDays.{legal_agrees}
pub use Rattle.printed_records.proofs.SmallCauses.{held_small}
