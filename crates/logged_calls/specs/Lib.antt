pub mod Times
pub mod Calls
pub mod Records
pub mod CallBytes
