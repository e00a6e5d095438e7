pub mod Events
pub mod Ruled
