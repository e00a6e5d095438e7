-- Windows, over configurations.
pub mod CalmHistories
pub mod StrongChoices
pub mod Progress
pub mod Closings
