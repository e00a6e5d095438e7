mod Crossing
mod Grasps
mod LogBytes
mod Prelude
