-- what public contracts rest on
pub mod Faults
pub mod Source
pub mod Change
pub mod Texts
pub mod Opened
pub mod Laws
