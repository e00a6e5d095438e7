pub mod ExchangedOrders
