pub mod Marks
pub mod RunBits
