mod NextUndos
mod Prelude
mod WorkedUndos
