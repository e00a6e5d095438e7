mod DeviceBits
mod DeviceWords
mod Snocs
pub mod Cited
