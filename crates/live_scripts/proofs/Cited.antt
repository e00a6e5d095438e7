-- What proofs of other crates cite of this one: lemmas, and the words in which these are said, by
-- the file in which they stand. Every other file of proofs/ is private.

-- The runs of a script's last window, and one run more.
pub use Rattle.live_scripts.proofs.GrownRuns.{MayTake, kinds_grown, may_take, number_grown, runs_grown, windows_grown}
