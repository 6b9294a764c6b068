-- What public contracts rest on.
pub mod Serving
pub mod Served
pub mod Store
pub mod Steps
pub mod Kept
