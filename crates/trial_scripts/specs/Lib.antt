pub mod Drawings
pub mod TrialDevices
pub mod TrialRoutines
pub mod TrialWindows
pub mod TrialScripts
