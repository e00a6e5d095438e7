-- What proofs of other crates cite of this one: lemmas, and the words in which these are said, by
-- the file in which they stand. Every other file of proofs/ is private.

-- The first access to a device of which a test holds.
pub use Rattle.failure_serialization.proofs.FirstAccesses.{first_of_all, some_found, some_run}
-- Where the lineage tells by itself which run waits, and which is lost.
pub use Rattle.failure_serialization.proofs.ToldByTable.{died_waits, lost_acquired}
-- An event of a device stands behind the sealed items, where no run with an access to the device is
-- one of them.
pub use Rattle.failure_serialization.proofs.Unsealed.{event_unsealed, event_within}
