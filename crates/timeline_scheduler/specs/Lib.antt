pub mod Bases
pub mod Gathered
pub mod Placings
pub mod Scratches
pub mod Slots
pub mod PlannedUses
