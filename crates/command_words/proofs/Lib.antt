mod CommandLineLemmas
mod DueValues
mod GrammarLemmas
mod OptionLaw
mod OptionLemmas
mod OptionRows
mod OptionSteps
mod PairedModes
mod Prelude
mod TrialLemmas
mod WalkedOptions
mod WordShapes
pub mod Cited
