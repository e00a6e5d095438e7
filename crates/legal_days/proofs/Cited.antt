-- What proofs of other crates cite of this one: lemmas, and the words in which these are said, by
-- the file in which they stand. Every other file of proofs/ is private.

-- Items of lists, and how many there are of a kind.
pub use Rattle.legal_days.proofs.Lists.{at_place, count_cons}
-- What was shown along a history is shown where one run more joins the window: clean reads, the
-- causes of dooms, isolation, and the calls that are told.
pub use Rattle.legal_days.proofs.JoinedCauses.{joined_clean, joined_justified, joined_strict, same_told, shown}
