mod Places
mod Moves
