pub mod Views
pub mod Desks
