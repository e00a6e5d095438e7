mod Prelude
mod RosterReads
mod LastPlaces
mod LastSums
mod FirstReads
mod FirstUses
mod FootprintBits
mod Joining
mod Sharing
mod Indexes
mod ClosedParts
mod ClosedSwaps
mod ClosedLeasts
mod Meeting
mod ClosedBrought
mod ClosedMoved
pub mod Cited
