-- What proofs of other crates cite of this one: lemmas, and the words in which these are said, by
-- the file in which they stand. Every other file of proofs/ is private.

-- Devices that go into their places one after another, and out of them.
pub use Rattle.device_gate.proofs.Places.{device_at, home_at, none_out}
