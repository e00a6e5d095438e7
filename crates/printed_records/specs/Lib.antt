pub mod Typed
pub mod Ends
pub mod Modes
pub mod Fits
pub mod FitWindows
pub mod SmallTimes
