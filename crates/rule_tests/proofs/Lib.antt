mod OneLamp
mod Prelude
mod Unsealed
