-- What proofs of other crates cite of this one: lemmas, and the words in which these are said, by
-- the file in which they stand. Every other file of proofs/ is private.

-- The joined order is a merge in which each room has its own order.
pub use Rattle.room_hubs.proofs.JoinedOrders.{joined_is, own_is}
-- Lists that are made number by number, and places of numbers.
pub use Rattle.room_hubs.proofs.Loops.{all_numbers, any_is, next_number}
-- A merge does to the home what the rooms' own orders do to the rooms.
pub use Rattle.room_hubs.proofs.Merges.{whole}
-- Where no run crosses rooms, the rooms of a window part the home.
pub use Rattle.room_hubs.proofs.Parts.{filtered, none_passes, parts}
-- How many rooms, devices and runs there are.
pub use Rattle.room_hubs.proofs.Sizes.{rooms_few}
-- The script of a room says of its windows, kinds and start what the room has of those of the home.
pub use Rattle.room_hubs.proofs.RoomScripts.{own_kinds_are, own_runs_are, own_start_is}
-- The runs of a window of a sound script have their commands on devices of the home, and where the
-- window is split none crosses rooms.
pub use Rattle.room_hubs.proofs.SoundRuns.{rooms_size, split_is, split_parts}
-- Where the home stands as its rooms do, each room stands so in it.
pub use Rattle.room_hubs.proofs.JoinedHomes.{home_of_rooms}
-- The runs of a room of a sound script, in the room's own numbers: their commands suit the room's
-- devices, and each follows an earlier one.
pub use Rattle.room_hubs.proofs.OwnRuns.{OwnRunsAreSound, own_runs_sound}
