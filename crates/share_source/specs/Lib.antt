-- what public contracts rest on
pub mod Reads
pub mod Block
pub mod Leaves
pub mod Candidates
pub mod Decoded
pub mod Laws
-- words of private clauses
pub mod Reading
