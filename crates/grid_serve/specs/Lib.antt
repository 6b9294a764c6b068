-- What public contracts rest on.
pub mod Counted
pub mod Faults
pub mod News
pub mod Plans
pub mod Served
