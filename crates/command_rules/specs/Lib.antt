pub mod Items
pub mod Searches
pub mod Rosters
pub mod Serial
pub mod Footprints
pub mod ClosedSets
pub mod Apart
