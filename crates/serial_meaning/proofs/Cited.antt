-- What proofs of other crates cite of this one: lemmas, and the words in which these are said, by
-- the file in which they stand. Every other file of proofs/ is private.

-- A refusal stays, whatever item comes next.
pub use Rattle.serial_meaning.proofs.Items.{serve_stays}
