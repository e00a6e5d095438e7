-- What proofs of other crates cite of this one: lemmas, and the words in which these are said, by
-- the file in which they stand. Every other file of proofs/ is private.

-- A legal window with its order exchanged.
pub use Rattle.exchange_laws.proofs.LegalOrders.{legal_exchanged, legal_itself}
