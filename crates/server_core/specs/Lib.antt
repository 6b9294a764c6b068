-- What public contracts rest on.
pub mod Faults
pub mod Limits
pub mod Buckets
pub mod ServerState
pub mod Sound
