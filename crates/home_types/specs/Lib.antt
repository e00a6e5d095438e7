pub mod Limits
pub mod Numbers
pub mod Listed
pub mod Kinds
pub mod HomeStates
pub mod Commands
pub mod DeviceSets
