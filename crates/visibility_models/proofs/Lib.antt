mod Found
mod LineRuns
mod Fronts
mod Prelude
mod StrictWaits
mod DownDevices
