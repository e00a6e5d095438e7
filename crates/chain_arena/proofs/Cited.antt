-- What proofs of other crates cite of this one: lemmas, and the words in which these are said, by
-- the file in which they stand. Every other file of proofs/ is private.

-- The words on a chain's pairs, where the list is cut at a pair.
pub use Rattle.chain_arena.proofs.Cuts.{apart_front, apart_rest, from_cut, has_cut, length_values, put_cut, set_cut, value_cut, values_cut, values_join, without_cut}
