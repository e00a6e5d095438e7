mod Prelude
mod RunBits
mod Marking
pub mod Cited
