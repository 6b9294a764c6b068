-- What public contracts rest on.
pub mod Verdict
pub mod Name
pub mod Fates
pub mod Acts
pub mod Going
pub mod Order
pub mod Known
pub mod Polite
-- The words of private clauses.
pub mod Reading
pub mod Readings
pub mod Failures
pub mod ActsState
pub mod Steps
