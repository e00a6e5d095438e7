mod Lists
mod JoinedCauses
pub mod Cited
