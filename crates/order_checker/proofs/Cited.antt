-- What proofs of other crates cite of this one: lemmas, and the words in which these are said, by
-- the file in which they stand. Every other file of proofs/ is private.

-- What `parse` reads in a word of digits.
pub use Rattle.order_checker.proofs.Numbers.{own}
-- Lines behind each other.
pub use Rattle.order_checker.proofs.Notes.{lines-cons}
-- The runs of a window of a sound script.
pub use Rattle.order_checker.proofs.SoundRuns.{seen_at, window_sound}
