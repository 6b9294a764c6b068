-- What public contracts rest on.
pub mod Limits
pub mod Ranges
pub mod Held
pub mod Refusals
pub mod Kinds
pub mod Frames
pub mod Stream
-- The words of private clauses: reading a body from left to right.
pub mod Reading
