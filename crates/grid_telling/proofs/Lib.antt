pub mod Flushing
pub mod Lines
