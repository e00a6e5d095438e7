pub mod Admissions
pub mod Denials
