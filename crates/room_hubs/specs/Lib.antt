pub mod Merges
pub mod Numbers
pub mod Rooms
pub mod Splits
pub mod ToldWindows
pub mod RoomScripts
