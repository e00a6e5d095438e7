mod DrawnEach
mod Prelude
mod TrialDevicesSound
mod TrialNames
mod TrialRoutinesSound
mod TrialSound
mod TrialWindowsSound
