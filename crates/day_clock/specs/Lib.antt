pub mod Faults
pub mod CallPlans
pub mod Sources
pub mod Sinks
pub mod BytesSources
pub mod BytesSinks
pub mod Times
