-- Runs that wait: what ends their waits, and what does not.
pub mod AtCommands
pub mod NearRuns
pub mod QuietEntries
pub mod OtherDevices
pub mod KeptLeases
pub mod Moments
pub mod Lending
pub mod HeldDevices
pub mod Followers
pub mod Sleepers
pub mod BlockedSteps
