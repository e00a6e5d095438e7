mod Prelude
mod Refusals
mod Items
pub mod Cited
