-- What public contracts rest on.
pub mod Remotes
pub mod Served
-- Words of private clauses.
pub mod Heard
