-- what public contracts rest on
pub mod Geometry
pub mod Layout
pub mod Pieces
pub mod Share
pub mod Offsets
pub mod Error
pub mod Reading
pub mod Writing
pub mod Laws
-- words of private clauses
pub mod Cutting
