pub mod Slots
pub mod KeptStates
pub mod Journals
