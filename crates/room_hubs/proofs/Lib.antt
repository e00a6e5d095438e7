mod Found
mod JoinedOrders
mod Loops
mod Merges
mod Names
mod Parts
mod Prelude
mod Sizes
mod Steps
mod RoomScripts
mod SoundRuns
mod JoinedHomes
mod OwnSound
mod OwnRuns
pub mod Cited
