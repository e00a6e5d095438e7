mod Prelude
mod StateBytes
mod Scanning
mod Keeping
mod Firsts
mod KeptKinds
