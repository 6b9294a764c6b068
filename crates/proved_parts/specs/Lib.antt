-- what public contracts rest on
pub mod Decoding
pub mod FileOf
pub mod Parts
pub mod Evidence
pub mod Laws
-- words of private clauses
pub mod Steps
