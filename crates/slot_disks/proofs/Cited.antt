-- What proofs of other crates cite of this one: lemmas, and the words in which these are said, by
-- the file in which they stand. Every other file of proofs/ is private.

-- How a run of calls of a disk goes on.
pub use Rattle.slot_disks.proofs.Moments.{then_on, weaker}
-- What a test of two gives.
pub use Rattle.slot_disks.proofs.Choices.{if_both, if_not_first, if_not_second}
-- What is known of a call that succeeded.
pub use Rattle.slot_disks.proofs.Groups.{both_ok, on_ok}
-- The open slots of a file.
pub use Rattle.slot_disks.proofs.OpenSlots.{kept_shut, one_size, open_front, slots-length, slots_append}
-- What a scan of the slots knows.
pub use Rattle.slot_disks.proofs.Scanning.{IsScannedTo, ends_all, ends_short, ends_shut, found_whole, scan_first, scan_next, scan_sees, to_shut_missing, to_shut_open}
