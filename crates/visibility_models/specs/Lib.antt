pub mod Models
pub mod Searches
