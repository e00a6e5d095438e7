mod Prelude
mod Publishings
mod Steps
pub mod Cited
