pub mod KeptRuns
pub mod Marks
pub mod Labels
pub mod RunPlaces
pub mod Lines
pub mod Ties
