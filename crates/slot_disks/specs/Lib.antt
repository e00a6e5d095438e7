pub mod Disks
pub mod WrittenRanges
pub mod MemoryDisks
pub mod Slots
pub mod SlotFiles
