mod FirstAccesses
mod Prelude
mod ToldByTable
mod WorkedEvents
mod RuledEvents
mod Unsealed
pub mod Cited
