-- what public contracts rest on
pub mod Limits
pub mod Shape
pub mod Key
pub mod Fields
pub mod Block
pub mod Reading
pub mod Error
-- words of private clauses
pub mod Splits
pub mod Value
