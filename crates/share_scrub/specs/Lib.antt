-- What public contracts rest on.
pub mod Scrub
pub mod Seen
pub mod Clearing
-- The words of private clauses.
pub mod Counted
