-- What proofs of other crates cite of this one: lemmas, and the words in which these are said, by
-- the file in which they stand. Every other file of proofs/ is private.

-- A numbered list with one more element.
pub use Rattle.day_report.proofs.Growing.{enumerate_from-append}
-- How many runs of some windows committed and were aborted, window by window.
pub use Rattle.day_report.proofs.Counts.{abort_count-take, commit_count-take, no_aborts, no_commits}
