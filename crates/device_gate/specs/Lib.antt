pub mod Calls
pub mod Grips
pub mod Places
