-- What public contracts rest on.
pub mod Refusals
pub mod Shelf
pub mod Calls
pub mod Memory
-- What an `impl` names as the proof of its law.
pub mod MemoryKeeps
