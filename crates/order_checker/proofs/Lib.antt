mod Bytes
mod Numbers
mod Notes
mod Prelude
mod Told
mod Walking
mod Passing
mod Events
mod Executions
mod RunSteps
mod Effects
mod Orders
mod SoundRuns
mod WindowSteps
pub mod Cited
