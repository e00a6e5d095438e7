mod Images
mod Moments
mod Prelude
mod Choices
mod OpenSlots
mod Scanning
mod Shutting
mod Groups
pub mod Cited
