-- Steps of the definition.
pub mod Choices
pub mod Revoked
pub mod Takes
pub mod Gives
pub mod Afters
pub mod Causes
pub mod GiveCauses
pub mod LastAnswers
pub mod Calls
pub mod HubAnswers
