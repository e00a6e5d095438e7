mod Answering
mod Holding
mod Leaving
mod Prelude
mod Standing
