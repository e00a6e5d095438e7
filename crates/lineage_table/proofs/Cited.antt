-- What proofs of other crates cite of this one: lemmas, and the words in which these are said, by
-- the file in which they stand. Every other file of proofs/ is private.

-- Pairs of a list, the one in front and the one behind it.
pub use Rattle.lineage_table.proofs.Pairs.{pairs_back, pairs_from_all, pairs_front}
unfoldable pub use Rattle.lineage_table.proofs.Pairs.{Pairs}
-- The words on accesses, where the list is cut at a run's access.
pub use Rattle.lineage_table.proofs.Splits.{access_at, before_at, behind_at, put_at, without_at, without_none}
-- Behind the access of a run there is no other one of that run.
pub use Rattle.lineage_table.proofs.Keeping.{none_behind}
-- The access of a run in a chain, and what a call of the chain makes of the accesses.
pub use Rattle.lineage_table.proofs.Knots.{read}
-- The value that stands, and whose it is.
pub use Rattle.lineage_table.proofs.Standing.{change_stands, effective_stands, not_writer, settled_stands, without_stands}
-- What a step of the hub does with a list of accesses that is cut at a run's access.
pub use Rattle.lineage_table.proofs.Steps.{acquired_at, pass_at, status_at, written_at}
-- The devices of each run, as its accesses come and leave.
pub use Rattle.lineage_table.proofs.RunSets.{has_homed}
-- Which runs have an access, as the accesses to a device change.
pub use Rattle.lineage_table.proofs.RunAccesses.{found_has}
-- A change of each device to which a run has an access, made on one after another: where it has
-- none the change is nothing.
pub use Rattle.lineage_table.proofs.Sweeps.{ChangedUpTo, changed_all, changed_more, changed_none, commits_nothing, no_access, removes_nothing, writes_nothing}
