pub mod CommandLines
pub mod OptionGrammar
pub mod OptionWords
pub mod TrialNumbers
pub mod RoomWords
