pub mod Conditions
pub mod Executions
pub mod Progress
