pub mod Publishings
pub mod Sights
pub mod Views
