mod Prelude
mod steps
mod windows
mod kept
mod waiting
mod calls
mod weak
mod joins
mod FoundDevices
mod SoundWindows
pub mod Cited
