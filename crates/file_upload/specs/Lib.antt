-- what public contracts rest on
pub mod Streamed
pub mod Ready
pub mod Laws
pub mod RemadeStream
pub mod Shares
pub mod Prepared
pub mod Repair
pub mod RepairError
