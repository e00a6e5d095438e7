mod Pairs
mod Prelude
mod Splits
mod Keeping
mod Knots
mod Leaving
mod Standing
mod Steps
mod Undoing
mod Writers
mod KeptTables
mod RunSets
mod RunAccesses
mod DeviceCounts
mod Sweeps
pub mod Cited
