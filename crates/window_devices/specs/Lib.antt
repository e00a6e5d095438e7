pub mod Checkouts
pub mod KnownDevices
pub mod LeftDevices
