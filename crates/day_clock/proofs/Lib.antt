mod Chunks
mod InMemory
