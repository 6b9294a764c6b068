-- what public contracts rest on
pub mod CapBlock
pub mod Pieces
pub mod TreeSection
pub mod ShareHashes
pub mod Verify
pub mod Checks
pub mod Inputs
pub mod Leaves
pub mod Hashed
pub mod Judging
-- words of private clauses
pub mod Hashing
