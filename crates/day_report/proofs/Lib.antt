mod Counts
mod Growing
mod Homes
mod Prelude
mod RunParts
mod WorkedDays
pub mod Cited
mod Numbers
