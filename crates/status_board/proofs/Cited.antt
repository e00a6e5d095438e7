-- What proofs of other crates cite of this one: lemmas, and the words in which these are said, by
-- the file in which they stand. Every other file of proofs/ is private.

-- Lists of publishings that grow.
pub use Rattle.status_board.proofs.Publishings.{last_more, only_over}
