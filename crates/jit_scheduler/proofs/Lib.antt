mod Admitted
mod Deniers
mod DeviceWalks
mod Fronts
mod Holders
mod Prelude
mod Searches
