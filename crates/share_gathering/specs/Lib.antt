-- what public contracts rest on
pub mod Gathered
pub mod Groups
pub mod Buffers
pub mod Shares
pub mod Finishing
pub mod KeptFile
pub mod Kept
pub mod Clash
pub mod Laws
