mod LineOrders
mod Prelude
mod Statuses
mod Exchanges
pub mod Cited
