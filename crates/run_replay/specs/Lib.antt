pub mod Replays
pub mod Playing
pub mod PlayerSteps
pub mod Players
pub mod ReplayedWindows
