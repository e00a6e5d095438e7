pub mod Words
pub mod RunEntries
pub mod Lines
pub mod Days
pub mod Trials
