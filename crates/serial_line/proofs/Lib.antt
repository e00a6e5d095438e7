mod Prelude
mod Searches
mod Once
mod Exchanged
mod Neighbours
mod RunPlaces
mod Fronts
mod Labels
mod Sealed
mod Meetings
mod KeptRuns
mod Ties
pub mod Cited
