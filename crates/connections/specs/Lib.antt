-- What public contracts rest on.
pub mod Greetings
pub mod Wires
pub mod Connections
pub mod Courses
pub mod Addresses
pub mod Refusals
-- The word of an invariant.
pub mod Limits
