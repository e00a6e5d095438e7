pub mod Cited
mod GrownRuns
mod GrowthSound
mod Prelude
mod Refusing
