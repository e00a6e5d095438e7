mod FittingOrders
mod FreshWindows
mod Prelude
