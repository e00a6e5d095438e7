mod DeviceSound
mod FormLemmas
mod GivenLemmas
mod NameLemmas
mod PrefixLemmas
mod Prelude
mod ReadingLemmas
mod RosterLemmas
mod RoutineSound
mod ScriptSound
mod WalkLemmas
mod WalkSound
mod WindowLemmas
mod WindowSound
pub mod Cited
