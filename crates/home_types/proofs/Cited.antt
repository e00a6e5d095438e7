-- What proofs of other crates cite of this one: lemmas, and the words in which these are said, by
-- the file in which they stand. Every other file of proofs/ is private.

-- What the bits of a set of devices say.
pub use Rattle.home_types.proofs.DeviceBits.{contains_insert, contains_one, contains_remove, or_bit}
-- The items of a list with one more at its end.
pub use Rattle.home_types.proofs.Snocs.{snoc_get, take_snoc}
