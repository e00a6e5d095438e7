mod Prelude
mod Swaps
mod Reached
mod ServedOrders
mod LegalOrders
mod StandingOrders
pub mod Cited
