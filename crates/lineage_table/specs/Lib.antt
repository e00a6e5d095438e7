pub mod Accesses
pub mod Answers
pub mod KeptWriters
pub mod Knots
pub mod Lineages
pub mod RunDevices
