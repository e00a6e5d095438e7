-- What proofs of other crates cite of this one: lemmas, and the words in which these are said, by
-- the file in which they stand. Every other file of proofs/ is private.

-- A run's commands, and the run that it follows, by its place in the roster.
pub use Rattle.command_rules.proofs.RosterReads.{commands_at, leader_at}
-- The last place of which a test holds.
pub use Rattle.command_rules.proofs.LastPlaces.{last_before, last_found, last_told, last_unfound, last_within}
-- A device that no command is on is not read first.
pub use Rattle.command_rules.proofs.FirstReads.{unread}
-- A device that a run reads first is one that it uses.
pub use Rattle.command_rules.proofs.FirstUses.{read_touched}
-- The device of a command is below 256 where those of all commands are.
pub use Rattle.command_rules.proofs.FootprintBits.{low_device}
-- Where two routines share a device, one is found that both use.
pub use Rattle.command_rules.proofs.Sharing.{found}
-- A device on which a command is, is below what the devices of all commands are below.
pub use Rattle.command_rules.proofs.Indexes.{device_below}
-- The closure is closed; and a line that is parted at a closed set keeps each part whose items meet
-- pairwise.
pub use Rattle.command_rules.proofs.ClosedParts.{closure_closed, part_kept}
-- The closure is the least closed set that holds the seeds, and the set that grows is the least one
-- that fits.
pub use Rattle.command_rules.proofs.ClosedLeasts.{closure_holds, closure_least, closure_size, either_first, either_in, either_second, either_size, grown_closed, grown_holds, grown_least, map_part, part_of_part, rearranged_any, rearranged_count, same_least}
-- Items of one device, and a run and the one that it follows, meet.
pub use Rattle.command_rules.proofs.Meeting.{both_touch, is_of, of_one_device}
-- How an item is brought forward, exchange by exchange.
pub use Rattle.command_rules.proofs.ClosedBrought.{apart_there, length_moved, may_exchange, moved, pass_there, starts}
-- How the items of a closed set are brought before the others, one after the other.
pub use Rattle.command_rules.proofs.ClosedMoved.{begins, first_held, flag_is, front_chosen, front_size, further, partly, passed_more, passes, size_more, size_same, stays, there}
