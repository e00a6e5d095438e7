pub mod Growth
pub mod Reasons
