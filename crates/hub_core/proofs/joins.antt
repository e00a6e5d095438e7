-- A run joins an open window.
pub mod JoinedRooms
pub mod JoinedHubs
pub mod JoinedParts
pub mod JoinedBeside
pub mod JoinedWindows
