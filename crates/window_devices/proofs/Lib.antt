mod Prelude
mod SetPlaces
mod Finds
mod KnownDevices
mod OpenedDevices
mod HeldTokens
mod LeftDevices
pub mod Cited
