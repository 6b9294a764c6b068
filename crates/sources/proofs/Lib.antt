pub mod PartReading
pub mod Differ
pub mod Brought
