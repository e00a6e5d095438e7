pub mod Devices
pub mod SimDevices
