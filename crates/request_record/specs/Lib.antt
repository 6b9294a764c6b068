-- What public contracts rest on.
pub mod Limits
pub mod Record
pub mod Written
pub mod Asking
pub mod Kept
pub mod PastState
pub mod Past
pub mod Entries
pub mod Follow
pub mod Operations
