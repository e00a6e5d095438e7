pub mod Added
pub mod Plans
pub mod Moments
pub mod Named
pub mod RunWords
pub mod Passes
pub mod Holding
mod Worked
