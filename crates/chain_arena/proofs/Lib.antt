mod Chains
mod Cuts
mod Drops
mod Grows
mod Joins
mod Nexts
mod Opened
mod Places
mod Prelude
mod Values
mod Words
pub mod Cited
