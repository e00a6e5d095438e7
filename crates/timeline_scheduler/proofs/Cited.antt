-- What proofs of other crates cite of this one: lemmas, and the words in which these are said, by
-- the file in which they stand. Every other file of proofs/ is private.

-- The plan of a run is on the run's devices, and on no other.
pub use Rattle.timeline_scheduler.proofs.PlannedUses.{planned_devices}
