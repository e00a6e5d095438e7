-- What proofs of other crates cite of this one: lemmas, and the words in which these are said, by
-- the file in which they stand. Every other file of proofs/ is private.

-- Two neighbours of a list, with what stands before and behind them; where they are apart they
-- share no device.
pub use Rattle.lineage_laws.proofs.Exchanges.{ArePair, pair, share_none}
